pub mod LaterLemmas
pub mod RereadLemmas
pub mod SearchLemmas
