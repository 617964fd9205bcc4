pub mod Numbered
pub mod Sound
pub mod Typed
pub mod Acting
pub mod Running
pub mod Watches
