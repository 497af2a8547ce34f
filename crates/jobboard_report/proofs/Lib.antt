-- Values that fit in place of the lent numbers.
pub mod InPlace
