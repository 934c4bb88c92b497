pub mod Ends
pub mod Lenient
pub mod EndLaws
pub mod LenientLaws
pub mod Read
pub mod ReadLaws
pub mod Stated
