mod EndingLemmas
mod FetchLemmas
mod RunLemmas
