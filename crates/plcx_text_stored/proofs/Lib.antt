pub mod Propositions
pub mod Leaves
pub mod Types
pub mod Scans
