pub mod Lists
pub mod Spelled
pub mod Variables
pub mod Nests
mod Along
mod Places
mod Pigeons
mod Bodies
mod Judged
mod Ports
mod Parts
mod Fed
mod Sizes
mod Agreed
mod Fixed
mod Held
mod Named
mod Given
mod Suited
mod Wired
mod Outputs
mod Enables
mod Functions
mod Joined
mod Instances
mod Lenders
mod Lent
mod Calls
mod Ordered
mod OneDiagram
