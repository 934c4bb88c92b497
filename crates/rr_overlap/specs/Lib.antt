pub mod Apart
pub mod Days
pub mod Pairs
pub mod Running
