pub mod Texts
pub mod Ticks
pub mod Errors
-- serves proofs alone
pub mod ReadTicks
