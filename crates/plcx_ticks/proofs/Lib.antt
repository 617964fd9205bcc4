pub mod Shown
pub mod Noted
pub mod Tables
pub mod Columns
pub mod TickRows
pub mod TickFiles
pub mod OneTicks
