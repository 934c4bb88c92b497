pub mod Growing
pub mod MadeSets
pub mod Rows
pub mod Sequence
pub mod Sketched
