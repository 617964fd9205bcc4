-- The wires of a project, and how often each was evaluated.
pub mod Wires
pub mod Counts
-- What a run leaves that counts them, and the counts as a text.
pub mod Covers
pub mod Texts
-- Serve proofs.
pub mod Keys
pub mod Listed
