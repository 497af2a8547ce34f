-- What the form check promises.
pub mod FormCheck
