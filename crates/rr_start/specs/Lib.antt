pub mod Start
pub mod Laws
pub mod Search
