-- The pair question, as in request 03 of document 02. Nothing here is taken from code.
pub mod Pair
