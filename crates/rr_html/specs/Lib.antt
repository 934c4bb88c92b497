pub mod Pieces
pub mod Markup
