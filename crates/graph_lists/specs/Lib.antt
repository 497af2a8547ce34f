-- What arrays hold, and what their functions promise.
pub mod Arrays
pub mod Keys
pub mod LinkedLists
