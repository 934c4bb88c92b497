mod ItemLemmas
mod NameLemmas
mod InstanceLemmas
mod LengthLemmas
mod TurningLemmas
mod KnownLemmas
mod StatedLemmas
mod FileLemmas
