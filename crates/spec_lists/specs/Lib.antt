-- Lists and numbers, as the definitions use them.
pub mod Lists
