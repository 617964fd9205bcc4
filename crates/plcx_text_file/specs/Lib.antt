pub mod Texts
pub mod Files
-- serves proofs alone
pub mod Refusals
