-- The laws of the conditions.
pub mod Basics
pub mod Firsts
pub mod Worlds
pub mod Values
pub mod Distinct
pub mod Bodies
pub mod Chains
pub mod Units
pub mod Views
