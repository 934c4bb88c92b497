pub mod OneEnd
pub mod Target
pub mod Translated
pub mod Single
