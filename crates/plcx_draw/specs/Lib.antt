pub mod Pins
pub mod Feedback
pub mod Known
pub mod Sheets
pub mod Wired
pub mod Listed
