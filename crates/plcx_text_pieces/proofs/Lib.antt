pub mod Values
pub mod Standing
pub mod Expressions
pub mod Statements
