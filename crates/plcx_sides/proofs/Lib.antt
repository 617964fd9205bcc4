pub mod Both
pub mod SameLeaves
pub mod SameLines
pub mod SameEvents
pub mod SameRuns
pub mod Corresponds
