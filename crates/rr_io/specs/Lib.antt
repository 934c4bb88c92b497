pub mod Outside
pub mod Names
pub mod Memory
pub mod Host
