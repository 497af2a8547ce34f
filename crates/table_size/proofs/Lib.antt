-- What a size that is not refused is, what a written word does to the layout, and the greatest of numbers by bench.
pub mod Sizes
pub mod Written
pub mod Highest
