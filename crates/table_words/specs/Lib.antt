-- Words where they lie in bytes.
pub mod Bytes
