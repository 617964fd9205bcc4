pub mod Carries
pub mod States
pub mod Texts
pub mod Laws
pub mod Examples
