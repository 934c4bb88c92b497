-- Sets of occurrences: what they are made of, their sketches, their texts, and the answers to questions about them.
pub mod Counting
pub mod Descriptor
pub mod DescriptorText
pub mod DividingOut
pub mod ExactlyOne
pub mod Least
pub mod Occupied
pub mod Printable
pub mod Reading
pub mod Sizes
pub mod Sketch
pub mod Stretches
pub mod Tree
pub mod Verdict
