-- The diagram of a checked project.
pub mod Pins
pub mod Declared
pub mod Operands
pub mod Links
pub mod Blocks
pub mod Kinds
pub mod Diagrams
-- what is known of a checked project
pub mod Checked
-- Worked examples.
pub mod Pieces
pub mod Examples
