pub mod PinLists
pub mod Standings
pub mod SideNames
pub mod Breakings
pub mod Judgings
