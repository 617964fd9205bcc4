-- lists, and the text of a value
mod Lists
mod Values
-- from the rules on the form of a file to its draft
mod Formed
mod Walked
mod Ranks
mod Interfaces
mod Bodies
mod Files
-- from the rules on what it declares to its project
mod Distinct
mod Keys
mod Variables
mod Chains
mod Sizes
mod Settled
