pub mod Advice
pub mod GraphNotes
pub mod Starts
pub mod Visible
