mod WordLemmas
mod NameLemmas
mod LanguageLemmas
mod FileLemmas
mod AnswerLemmas
