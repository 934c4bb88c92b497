pub mod Length
pub mod Duration
pub mod Event
pub mod Lengths
pub mod Walk
