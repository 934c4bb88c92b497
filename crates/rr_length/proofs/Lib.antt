mod AnswerLemmas
mod OneLemmas
mod OrderLemmas
mod WalkLemmas
