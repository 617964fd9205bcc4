pub mod Programs
-- serves proofs alone
pub mod Choosing
