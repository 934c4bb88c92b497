pub mod InstanceLemmas
pub mod KeyStepLemmas
pub mod EditLemmas
pub mod DateSetLemmas
pub mod EditedInstanceLemmas
pub mod OccursLemmas
pub mod ValidLemmas
