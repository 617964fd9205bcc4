pub mod Zips
pub mod Callees
pub mod Growing
pub mod Tables
pub mod Programs
