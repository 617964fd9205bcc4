pub mod Fronts
pub mod FilesByName
