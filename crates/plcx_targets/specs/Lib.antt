-- Serves proofs: labels by their names.
pub mod Labels
