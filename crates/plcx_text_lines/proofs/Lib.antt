pub mod Adding
pub mod Types
pub mod Bringing
pub mod Bindings
pub mod Calling
pub mod Choosing
