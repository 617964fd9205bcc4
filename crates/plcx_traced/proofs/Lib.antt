pub mod OneLines
pub mod OneFile
pub mod OneOutcome
pub mod Made
