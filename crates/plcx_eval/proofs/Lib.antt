pub mod Standing
pub mod Sided
pub mod Scanned
pub mod Literals
pub mod Opened
pub mod Hearing
pub mod Listened
