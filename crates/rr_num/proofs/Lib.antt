mod CongruenceLemmas
mod DivisionLemmas
pub mod DivisorLemmas
mod PartsLemmas
pub mod FactorLemmas
