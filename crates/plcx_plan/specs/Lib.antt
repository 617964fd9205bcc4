pub mod Attributes
pub mod Items
pub mod Intervals
pub mod Conditions
pub mod Plans
pub mod Reading
pub mod Seen
pub mod Told
