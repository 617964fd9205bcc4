pub mod Named
pub mod Loops
pub mod Owned
pub mod OneCycle
pub mod Planned
