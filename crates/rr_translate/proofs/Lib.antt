pub mod UptoCountLemmas
pub mod OneEndLemmas
pub mod SoundLemmas
pub mod CalendarLemmas
pub mod LimitLemmas
pub mod SetLemmas
pub mod SingleLemmas
pub mod GraphLemmas
