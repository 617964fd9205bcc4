pub mod Computing
pub mod Lists
pub mod Kept
pub mod Graphs
pub mod Counted
mod Computed
pub mod Missing
pub mod OneCheck
