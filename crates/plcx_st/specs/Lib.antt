-- What the contracts of public functions say.
pub mod Binding
pub mod Grammar
pub mod Place
pub mod Meant
pub mod Print
pub mod Depth
pub mod Fitting
pub mod InRange
pub mod Stands
-- What serves proofs alone: how the printer's buffer grows.
pub mod Printer
