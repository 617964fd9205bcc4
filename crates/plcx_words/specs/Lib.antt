pub mod Simple
pub mod Command
pub mod Says
