pub mod Counting
pub mod Found
pub mod Counted
pub mod Heights
pub mod Numbered
pub mod Telling
