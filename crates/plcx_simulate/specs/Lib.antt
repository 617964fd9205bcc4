pub mod Programs
pub mod Watching
-- serve proofs alone
pub mod Choosing
pub mod Listening
