pub mod Values
pub mod Folding
pub mod Acting
pub mod Declared
pub mod Units
