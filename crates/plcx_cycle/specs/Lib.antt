pub mod Cycles
-- serves proofs alone
pub mod Sides
