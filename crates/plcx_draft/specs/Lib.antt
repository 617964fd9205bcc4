pub mod Parts
pub mod BodyIn
pub mod DraftIn
