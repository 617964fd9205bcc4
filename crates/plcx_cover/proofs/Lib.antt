pub mod Growing
pub mod Placed
pub mod Found
pub mod Distinct
pub mod Listed
pub mod Lines
pub mod Covered
pub mod Lent
