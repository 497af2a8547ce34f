-- Sizes, and the layout with one part of it written anew.
pub mod Sizes
pub mod Written
