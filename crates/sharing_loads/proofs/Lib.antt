-- The heaviest load, loads in falling order, and the lightest of several benches.
pub mod Greatest
pub mod CountingLoads
pub mod Lower
pub mod LowestLoad
