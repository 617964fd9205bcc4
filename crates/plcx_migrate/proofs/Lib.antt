pub mod OneVersion
pub mod OneMigration
