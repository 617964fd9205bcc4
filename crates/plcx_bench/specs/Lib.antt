pub mod Summary
pub mod Watching
-- serves proofs alone
pub mod Sides
