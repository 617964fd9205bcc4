pub mod Runs
pub mod Values
pub mod Alikes
pub mod Assigning
pub mod Calling
pub mod Statements
pub mod Bodies
pub mod Prepared
