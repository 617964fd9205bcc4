pub mod Markup
pub mod File
pub mod Unbroken
-- serves proofs
pub mod Text
