pub mod WalkLemmas
mod WholeUnitLemmas
pub mod DayListLemmas
pub mod StepLemmas
pub mod FineLemmas
pub mod OffsetLemmas
pub mod UnitOffsetLemmas
pub mod RankLemmas
pub mod SetPositionLemmas
pub mod PositionDayLemmas
pub mod PlainLemmas
pub mod AloneRankLemmas
