pub mod Numbered
pub mod Sound
pub mod Typed
pub mod Running
