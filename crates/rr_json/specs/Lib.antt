pub mod Event
pub mod Files
pub mod Json
pub mod Laws
