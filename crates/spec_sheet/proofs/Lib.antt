-- What is proved of the sheet.
pub mod SheetLengths
pub mod Longest
pub mod Reading
pub mod Pictures
