pub mod Called
pub mod Literals
pub mod Guarded
pub mod Emitted
