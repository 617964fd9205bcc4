pub mod Stands
pub mod Digits
pub mod Ring
pub mod Form
pub mod Draft
pub mod Kept
pub mod Spelled
pub mod Refusals
