pub mod TakeLemmas
pub mod CallLemmas
pub mod SoFarLemmas
pub mod PlanLemmas
pub mod VcalLemmas
pub mod VcalPlanLemmas
