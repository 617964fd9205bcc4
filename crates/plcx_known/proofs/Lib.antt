pub mod Places
pub mod Units
pub mod Standing
pub mod Owners
pub mod Parts
pub mod LongChains
pub mod LevelSizes
