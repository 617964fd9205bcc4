pub mod OneVerdict
pub mod Judging
pub mod BodyGraphs
