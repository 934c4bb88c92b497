-- Series of rules and dates (RFC 5545, section 3.8.5).
pub mod CanonLaw
pub mod Cycle
pub mod FirstRefusal
pub mod Limits
pub mod Occurrences
pub mod Settled
pub mod Soundness
pub mod Tree
pub mod Validity
