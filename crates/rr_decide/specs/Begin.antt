-- The day on which the first of two sketches begins.
use Rattle.std.specs.Prelude.{◌≡◌, ◌⊎◌, Option, MatchOption, ℤ}
use Rattle.rr_model.specs.Sets.Sketch.{IsEmptySketch, IsFirstDay}
use Rattle.rr_model.specs.declared.kind.Kind.{Kind}
use Rattle.rr_model.specs.declared.sketch.Sketch.{Sketch}
use Rattle.rr_decide.specs.Question.{HasNoneBefore, ShareNothing}
use Rattle.rr_decide.specs.Reading.{IsFirstOfBoth}

-- the sketch is of this kind, and this is its first occupied day; none if no day is
abbrev pub Begins : Sketch → Kind → Option ℤ → Type 0
Begins s kind first = (kind ≡ s.kind) × IsFirstDay s first

-- two sketches of one kind, neither of them empty, and the lesser of their first occupied days
pub record BeginOn (s u : Sketch) (from : ℤ) : Type 0 where
  pub kind : s.kind ≡ u.kind
  pub first_of_a : HasNoneBefore s from
  pub first_of_b : HasNoneBefore u from
  pub some : IsEmptySketch s ⊎ IsEmptySketch u → ⊥
  pub first : IsFirstOfBoth s u from

-- any two sketches of these kinds and first occupied days begin on this day; if it is none they have nothing in common
abbrev pub AreBegun : Kind → Option ℤ → Kind → Option ℤ → Option ℤ → Type 0
AreBegun kind_a first_a kind_b first_b from =
    (s u : Sketch) → Begins s kind_a first_a → Begins u kind_b first_b → MatchOption from (ShareNothing s u) (BeginOn s u)
