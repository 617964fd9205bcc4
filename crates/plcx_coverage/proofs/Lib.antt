pub mod Counted
pub mod OneCoverage
