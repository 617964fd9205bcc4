-- The program of a name, its layout, and its retained states.
pub mod Opening
-- Serves proofs.
pub mod Leaves
pub mod Suits
pub mod Named
