mod Laid
pub mod Standing
mod Stands
pub mod Remembered
pub mod Suited
