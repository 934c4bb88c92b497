pub mod Form
pub mod Days
pub mod Walked
