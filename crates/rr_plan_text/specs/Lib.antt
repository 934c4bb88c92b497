pub mod PlanText
pub mod VcalText
