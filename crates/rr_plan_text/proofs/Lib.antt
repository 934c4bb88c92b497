pub mod TextLemmas
pub mod MomentLemmas
pub mod RisingLemmas
pub mod VcalLemmas
