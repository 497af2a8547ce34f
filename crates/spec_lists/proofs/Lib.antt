-- Tests and elements of lists; counts and totals; numbers raised and lowered.
pub mod Tests
pub mod Elements
pub mod NumberLists
pub mod Counting
pub mod RisingLists
pub mod Raising
