mod OtherLemmas
mod LineLemmas
mod OneLemmas
