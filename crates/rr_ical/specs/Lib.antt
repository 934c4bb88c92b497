pub mod Kept
pub mod Listed
pub mod Lists
pub mod Steps
pub mod LineLaws
pub mod Components
pub mod Sought
