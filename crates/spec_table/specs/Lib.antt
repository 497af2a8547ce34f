-- The board and its table, as in document 01; the benches counted for the heaviest load, as in document 02. Nothing here is
-- taken from code.
pub mod Board
pub mod CountedBenches
pub mod Table
