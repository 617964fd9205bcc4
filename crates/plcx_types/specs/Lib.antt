-- What is said of names, types, values and literals, and the limits.
pub mod Limits
pub mod Lists
pub mod Name
pub mod IdentError
pub mod ElementaryTypes
pub mod TypeName
pub mod Range
pub mod Value
pub mod Conversion
pub mod Reserved
pub mod Numeral
pub mod Duration
pub mod Literal
pub mod Printed
pub mod Address
-- what serves proofs alone: the steps by which the functions read
pub mod Reading
pub mod ReadLiteral
pub mod ReadConversion
pub mod ReadAddress
pub mod Signs
