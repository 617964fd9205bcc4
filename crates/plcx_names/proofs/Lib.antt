pub mod Inserted
pub mod Firsts
pub mod Finding
pub mod ByName
pub mod FormalNames
pub mod HoldingLaws
