pub mod LaidFor
pub mod Between
pub mod Laws
