pub mod Fails
-- what serves the proofs alone
pub mod Reading
pub mod Gives
