pub mod Lists
pub mod Digits
pub mod Listing
pub mod Points
pub mod Firsts
