pub mod Combined
pub mod Items
pub mod Split
