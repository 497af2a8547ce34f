-- What is found of a path, and what handing it over does.
pub mod FoundPaths
