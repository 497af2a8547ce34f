-- Text, as the definitions use it.
pub mod Numbers
pub mod Text
