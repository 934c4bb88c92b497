pub mod HostLemmas
pub mod NamesLemmas
pub mod TextLemmas
pub mod ToldLemmas
