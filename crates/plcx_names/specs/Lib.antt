-- What the look-ups answer of the definitions that they serve.
pub mod Told
pub mod Seen
pub mod Owned
pub mod SeenHelds
pub mod Bodies
pub mod Holdings
