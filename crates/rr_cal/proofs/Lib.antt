pub mod DayUnitLemmas
pub mod JiffLemmas
mod NearLemmas
mod NextDayLemmas
pub mod StretchLemmas
pub mod UnitLemmas
