-- Jobs as steps.
pub mod Others
