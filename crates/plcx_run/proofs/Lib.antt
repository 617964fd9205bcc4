pub mod Sided
pub mod Scanned
pub mod Opened
