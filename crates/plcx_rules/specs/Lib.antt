-- What the rules 20 to 36 mean, and the words that they are said in.
pub mod Texts
pub mod Declarations
pub mod Callees
pub mod Helds
pub mod Sources
pub mod Items
pub mod LinkRules
pub mod Types
pub mod Forms
pub mod TypingRules
pub mod Typed
pub mod CheckVerdict
-- What is said of the definitions alone.
pub mod Laws
-- Worked examples.
pub mod Pieces
pub mod LinkExamples
