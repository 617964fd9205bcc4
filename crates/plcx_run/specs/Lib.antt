-- Ready for a scan.
pub mod Standing
-- What a side stands for.
pub mod Sides
