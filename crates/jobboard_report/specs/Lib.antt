-- An answer in lent numbers.
pub mod Report
