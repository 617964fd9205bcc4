pub mod Versions
pub mod Migrations
