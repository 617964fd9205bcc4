-- Ready for a scan.
pub mod Ready
-- What a side stands for.
pub mod Sides
-- Someone listens.
pub mod Watching
pub mod Listening
