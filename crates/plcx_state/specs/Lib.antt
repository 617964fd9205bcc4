pub mod Layouts
pub mod Retains
pub mod Stores
pub mod Lines
pub mod Meanings
pub mod Errors
-- serve proofs alone
pub mod Tables
pub mod ReadLines
