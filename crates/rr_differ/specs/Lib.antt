pub mod Apart
pub mod Differences
pub mod Further
pub mod Next
