pub mod Adds
pub mod Does
