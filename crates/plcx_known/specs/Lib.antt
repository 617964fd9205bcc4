-- What the names of a unit lead to.
pub mod Unit
pub mod Names
pub mod Types
pub mod Owned
pub mod Parts
pub mod Chains
pub mod Sizes
