pub mod Places
pub mod Standards
pub mod Typing
pub mod Loops
pub mod Rooms
