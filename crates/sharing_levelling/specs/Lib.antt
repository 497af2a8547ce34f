-- What levelling leaves.
pub mod LevellingResult
