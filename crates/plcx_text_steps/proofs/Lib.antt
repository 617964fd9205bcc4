pub mod Loops
pub mod Rooms
