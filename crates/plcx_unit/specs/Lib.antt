-- What the functions that judge a unit answer.
pub mod Pieces
pub mod Answers
pub mod Refused
pub mod Rest
