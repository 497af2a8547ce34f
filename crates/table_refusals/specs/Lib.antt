-- Each refusal of the code as document 01's.
pub mod Refusals
