pub mod Counts
pub mod Tabled
pub mod Laws
