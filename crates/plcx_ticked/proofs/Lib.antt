pub mod Alike
pub mod Taken
pub mod OneOrder
pub mod OneRows
pub mod OneTicked
