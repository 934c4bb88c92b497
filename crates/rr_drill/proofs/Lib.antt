mod CountLemmas
mod CycleLemmas
mod DrawExamples
mod FoldLemmas
mod LimitLemmas
mod SeriesLemmas
mod SynchronisedLemmas
