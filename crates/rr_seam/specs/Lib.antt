pub mod Keys
pub mod Steps
pub mod Words
pub mod Marks
pub mod Stated
pub mod Files
