pub mod Events
pub mod Words
pub mod Stated
pub mod Parts
pub mod Gathered
pub mod Files
