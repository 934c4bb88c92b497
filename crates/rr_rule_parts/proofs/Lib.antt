pub mod PlacedLemmas
mod PartsLemmas
mod CalendarExamples
mod WrittenExamples
pub mod WrittenNumberLemmas
pub mod BoundsLemmas
pub mod ValidRisingLemmas
pub mod ValidPartsLemmas
pub mod ValidityLemmas
