pub mod Items
pub mod Names
pub mod Turning
pub mod Lengths
pub mod Stated
pub mod Known
pub mod Parsed
pub mod Files
