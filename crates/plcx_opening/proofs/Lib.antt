mod Remembering
pub mod Places
pub mod Propositions
pub mod Layouts
