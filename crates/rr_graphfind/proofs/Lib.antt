pub mod OrderLemmas
pub mod MemberLemmas
pub mod ApartLemmas
pub mod RefusalLemmas
pub mod FoundLemmas
