pub mod Propositions
pub mod Leaves
pub mod Memories
pub mod Inputs
pub mod Scans
pub mod Types
