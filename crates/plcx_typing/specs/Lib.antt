pub mod Closure
pub mod Sheets
pub mod Flows
pub mod Tests
pub mod Faults
pub mod Building
pub mod Judgings
pub mod Answers
