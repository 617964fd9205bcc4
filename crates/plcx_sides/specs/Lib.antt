-- What the side of a diagram and that of its text show and tell.
pub mod Both
-- What their runs come to.
pub mod SameRuns
