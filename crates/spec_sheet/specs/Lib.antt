-- The wall sheet, as in request 01 of document 02. Nothing here is taken from code.
pub mod Sheet
pub mod Reading
