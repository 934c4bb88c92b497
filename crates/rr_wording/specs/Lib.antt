pub mod Numbers
pub mod Dates
pub mod Lists
pub mod Parts
pub mod Days
pub mod Rules
pub mod Words
