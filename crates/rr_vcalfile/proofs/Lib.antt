mod PartLemmas
mod FileLemmas
mod WordsLemmas
