pub mod Linked
-- serve proofs alone
pub mod InProject
pub mod Bodies
pub mod Outputs
pub mod Faults
pub mod Blocks
pub mod Sides
pub mod Expressions
pub mod Breaking
pub mod Judged
