-- Marks as the tight set that they are.
pub mod AlongChains
pub mod AsSet
