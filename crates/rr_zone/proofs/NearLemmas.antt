-- Onsets in tables lie not far from the years 1 to 9999.
use Rattle.std.proofs.Common.{◌≡◌, Bool, true, false, ℤ, pos, ◌+ℤ◌, ◌≤ℤ◌, List, [], ◌∷◌, All, Option, None, Some, inl, inr, subst, arith}
use Rattle.std.specs.Prelude.{IfSome, if◌then◌else◌, int_le}
use Rattle.std.proofs.lemmas.Int.{ints}
use Rattle.rr_model.specs.Calendar.{first_day_of_year}
use Rattle.rr_model.specs.Moment.{day_part}
use Rattle.rr_model.specs.Moment.Years.{IsInYears}
use Rattle.rr_model.specs.Series.Validity.{IsValidSeries}
use Rattle.rr_model.specs.declared.kind.Kind.TheVariants.{Moments}
use Rattle.rr_model.specs.declared.rule.Series.{Series}
use Rattle.rr_model.proofs.YearLemmas.{year_1, year_10000}
use Rattle.rr_zone.specs.Offsets.{IsBelowDay}
use Rattle.rr_zone.specs.Onsets.{earliest, later, with_last}
use Rattle.rr_zone.specs.Tables.{AreTablesOf, IsNear, IsTableOf, IsUpTo, last_listed, last_of}
use Rattle.rr_zone.specs.declared.clock.Onset.{Onset}
use Rattle.rr_zone.specs.declared.clock.Table.{Table}
use Rattle.rr_zone.specs.declared.observance.Observance.{Observance}
use Rattle.rr_zone.proofs.ZoneLemmas.{day_of, last_is}

-- a moment of the years 1 to 9999 is near
pub years-near : (at : ℤ) → IsInYears Moments at → IsNear at
years-near at years =
    let d = day_of at in
    let y = year_1 in
    let z = year_10000 in
    let low = years.0 in
    let high = years.1 in
    record { low = omega (arith, ints, d.0, low, y); high = omega (arith, ints, d.1, high, z) }

-- so is an onset from the year 1 on that is not after a near moment
onset-near : (u from at : ℤ) → first_day_of_year (pos 1) ≤ℤ day_part Moments (u +ℤ from) → IsBelowDay from → u ≤ℤ at → IsNear at → IsNear u
onset-near u from at late below early near =
    let d = day_of (u +ℤ from) in
    let y = year_1 in
    record { low = omega (arith, ints, d.0, late, y, below.high); high = omega (arith, ints, early, near.high) }

abbrev pub HasUpTo : ℤ → Option Onset → Type 0
HasUpTo at found = IfSome found (IsUpTo at)

module _ (at : ℤ) (near : IsNear at) where
  -- a moment is near, and not after this one
  abbrev Is : ℤ → Type 0
  Is u = IsNear u × (u ≤ℤ at)

  listed-near : (end : ℤ) (o : Observance) (x : Table) → IsTableOf end o x → IfSome (last_listed x.onsets at) Is
  listed-near end o x t = elim (last_is at None x.onsets t.onsets.rises) [
    | inl none ↦ rw none.0 tt
    | inr some ↦ rw some.1 (onset-near some.0 o.from at ((t.onsets.exact some.0).0 some.2.there).late t.below some.2.early near, some.2.early)
  ]

  chosen-near : (b : Bool) (x y : Onset) → IsUpTo at x → IsUpTo at y → IsUpTo at (if b then x else y)
  chosen-near true x y p q = p
  chosen-near false x y p q = q

  later-near : (a : Option Onset) (b : Onset) → HasUpTo at a → IsUpTo at b → IsUpTo at (later a b)
  later-near None b p q = q
  later-near (Some a) b p q = chosen-near (int_le b.at a.at) a b p q

  with_last-near : (found : Option Onset) (from to : ℤ) (last : Option ℤ) → HasUpTo at found → IfSome last Is → HasUpTo at (with_last found from to last)
  with_last-near found from to None p q = p
  with_last-near found from to (Some u) p q =
      later-near found (record { at = u; from = from; to = to }) p (record { near = q.0; early = q.1 })

  -- the last onset in the tables of a zone is near, and not after the moment
  pub last-up_to : (end : ℤ) (zone : List Observance) (tables : List Table) (found : Option Onset) → AreTablesOf end zone tables → HasUpTo at found
      → HasUpTo at (last_of found tables at)
  last-up_to end [] [] found t p = p
  last-up_to end [] (x ∷ xs) found t p = absurd t
  last-up_to end (o ∷ os) [] found t p = absurd t
  last-up_to end (o ∷ os) (x ∷ xs) found t p =
      last-up_to end os xs (with_last found x.from x.to (last_listed x.onsets at)) t.1
      (with_last-near found x.from x.to (last_listed x.onsets at) p (listed-near end o x t.0))

-- ---- the first onset

first-near : (b : Bool) (u t : ℤ) → IsNear u → IsNear t → IsNear (if b then u else t)
first-near true u t p q = p
first-near false u t p q = q

earliest_of-near : (dates : List ℤ) (start : ℤ) → All (IsInYears Moments) dates → IsInYears Moments start → IsNear (earliest dates start)
earliest_of-near [] start all s = years-near start s
earliest_of-near (u ∷ us) start all s = first-near (int_le u start) u start (years-near u (all 0 u (omega arith))) (years-near start s)

-- the first of the start and the dates of a valid series is near
pub earliest-near : (series : Series) → series.kind ≡ Moments → IsValidSeries series → IsNear (earliest series.plus series.start)
earliest-near series kind valid =
    earliest_of-near series.plus series.start (subst (λ k. All (IsInYears k) series.plus) kind valid.plus)
    (subst (λ k. IsInYears k series.start) kind valid.start)
