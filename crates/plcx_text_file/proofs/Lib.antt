pub mod Refused
pub mod OneVerdict
