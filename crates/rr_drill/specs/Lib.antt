pub mod Asked
pub mod Counting
pub mod Cycles
pub mod Draws
pub mod Folds
pub mod Summary
