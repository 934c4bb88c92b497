pub mod AdviceLemmas
mod Examples
pub mod FloatLemmas
pub mod LawLemmas
pub mod MemberLemmas
pub mod PrintLemmas
pub mod TextLemmas
