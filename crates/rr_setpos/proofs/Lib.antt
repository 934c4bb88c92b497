pub mod FitLemmas
pub mod NthLemmas
pub mod PositionLemmas
pub mod ProductLemmas
pub mod SelectLemmas
pub mod TimeCountLemmas
pub mod UnitDayLemmas
