pub mod Class
pub mod Event
pub mod Head
pub mod Month
pub mod Page
pub mod Said
pub mod Sections
pub mod Words
