pub mod Advice
pub mod Facts
pub mod Sum
