-- What is known of the local time of a zone.
use Rattle.std.specs.Prelude.{◌≡◌, ℤ, ◌+ℤ◌, List, ◌∷◌, All}
use Rattle.rr_zone.specs.Clocks.{local_time}
use Rattle.rr_zone.specs.declared.clock.LocalTime.TheVariants.{Once}
use Rattle.rr_zone.specs.declared.observance.Observance.{Observance}

-- both offsets of an observance are this one
abbrev pub HasOffset : ℤ → Observance → Type 0
HasOffset offset o = (o.from ≡ offset) × (o.to ≡ offset)

-- A zone of observances that all have one offset has that offset at every moment.
abbrev pub OneOffsetIsFixed : Type 0
OneOffsetIsFixed = (offset : ℤ) (o : Observance) (os : List Observance) (at : ℤ) → All (HasOffset offset) (o ∷ os) → local_time (o ∷ os) at ≡ Once (at +ℤ offset)
