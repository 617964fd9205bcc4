pub mod Lists
pub mod Suited
pub mod Laid
pub mod Stands
pub mod Places
pub mod Levels
pub mod Units
