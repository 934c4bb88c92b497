pub mod Title
