-- Why the path that is found is the closing's.
pub mod Keeping
pub mod Seeding
pub mod RoundLevels
pub mod Rounds
