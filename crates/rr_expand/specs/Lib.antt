pub mod Expansion
pub mod Spread
pub mod KeptMasks
pub mod LeftOut
pub mod UnitTimes
pub mod Years
