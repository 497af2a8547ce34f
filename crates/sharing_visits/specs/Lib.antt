-- Chains to walk along, and what visits promise of marks.
pub mod ArrayChains
pub mod Marks
