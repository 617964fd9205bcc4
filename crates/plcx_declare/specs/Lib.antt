-- The pieces of the declarations of a POU, by its elements.
pub mod Texts
-- Which declarations have names.
pub mod Named
