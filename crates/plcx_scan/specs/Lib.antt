pub mod Events
pub mod Sides
pub mod Rows
pub mod Texts
pub mod Files
pub mod Errors
-- serve proofs alone
pub mod Entries
pub mod Readers
pub mod ReadFiles
