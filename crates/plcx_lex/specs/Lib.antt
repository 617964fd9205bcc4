-- What the contracts of public functions say.
pub mod Token
pub mod Terminal
pub mod Number
pub mod Lexis
pub mod Fails
-- What serves proofs alone: it follows the code. `number_of` cites ReadNumber beside Number, for what stands above it.
pub mod ReadNumber
pub mod Scan
