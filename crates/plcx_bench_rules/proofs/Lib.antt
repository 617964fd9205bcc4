pub mod Names
pub mod Held
pub mod Blocks
pub mod Body
pub mod Links
pub mod Sheets
pub mod Typing
pub mod Unbroken
