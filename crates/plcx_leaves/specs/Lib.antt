-- Leaves, one by one.
pub mod Leaves
pub mod Within
