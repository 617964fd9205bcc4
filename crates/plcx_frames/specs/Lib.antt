-- Frames, and inputs that can be written.
pub mod Frames
