pub mod Files
pub mod Cycles
