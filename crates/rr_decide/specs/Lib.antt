pub mod Alike
pub mod Begin
pub mod Look
pub mod Occurrence
pub mod Question
pub mod Quiet
pub mod Reading
pub mod Rows
