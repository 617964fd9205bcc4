-- Serves the proofs of sides.
pub mod Kept
pub mod Scanning
