pub mod Scans
pub mod Sums
pub mod Begun
pub mod Made
pub mod OneSummary
