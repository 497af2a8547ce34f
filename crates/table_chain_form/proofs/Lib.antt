-- The walks, that they find a table formed exactly if the definition does, and the lengths that they leave.
pub mod Walking
pub mod Formed
pub mod Lengths
