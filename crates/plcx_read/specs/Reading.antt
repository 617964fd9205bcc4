-- Reading a list of tokens from the left: a value, its depth and the tokens after it, or the fault.
pub mod Tokens
pub mod Exprs
pub mod Stmts
pub mod Units
unfoldable pub use Tokens.*
unfoldable pub use Exprs.*
unfoldable pub use Stmts.*
unfoldable pub use Units.*
