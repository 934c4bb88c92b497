pub mod Numbers
pub mod Times
pub mod Units
