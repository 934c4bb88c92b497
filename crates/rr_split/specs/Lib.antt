pub mod Left
pub mod Promise
pub mod Vcal
