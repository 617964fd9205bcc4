-- Which conditions a unit breaks, and where.
pub mod Broken
pub mod First
pub mod Placed
pub mod Known
pub mod Expressions
pub mod Statements
pub mod Declarations
pub mod Places
-- Worked examples.
pub mod Pieces
pub mod Examples
