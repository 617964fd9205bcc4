pub mod Tasks
pub mod Orders
pub mod Runs
-- serve proofs alone
pub mod Steps
