-- The program of a name, and its layout.
pub mod Opening
-- What a program remembers.
pub mod Laws
-- Serves proofs.
pub mod Named
