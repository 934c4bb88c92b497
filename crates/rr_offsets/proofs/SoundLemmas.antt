-- The changes of a zone are sound: offsets are less than a day, and nothing is far.
use Rattle.std.proofs.Common.{◌≡◌, ℕ, ◌≤◌, Bool, true, false, ℤ, pos, ◌*ℤ◌, ◌≤ℤ◌, ◌<ℤ◌, List, [], ◌∷◌, All, Option, None, Some, sym, subst, arith}
use Rattle.std.specs.Prelude.{if◌then◌else◌, int_le}
use Rattle.std.specs.Int.{◌∣◌}
use Rattle.std.proofs.lemmas.Int.{ints, by_lt_z}
use Rattle.std.proofs.lemmas.List.Elements.{All-head, All-tail}
use Rattle.std.proofs.lemmas.Option.{none-some, same_Some}
use Rattle.rr_model.proofs.YearLemmas.{year_1}
use Rattle.rr_true.specs.Changes.{AreSoundChanges, IsBelowDay}
use Rattle.rr_true.specs.Near.{IsNear}
use Rattle.rr_true.specs.declared.change.Change.{Change}
use Rattle.rr_zone.specs.Observances.{IsSoundObservance}
use Rattle.rr_zone.specs.Onsets.{earlier, first_of_zone, first_onset}
use Rattle.rr_zone.specs.Tables.{AreListed, first_of}
use Rattle.rr_zone.specs.declared.clock.Onset.{Onset}
use Rattle.rr_zone.specs.declared.clock.Table.{Table}
use Rattle.rr_zone.specs.declared.observance.Observance.{Observance}
use Rattle.rr_offsets.specs.Listing.{changes_to}
use Rattle.rr_offsets.specs.Offsets.{begins, new_offset, offset_before}
use Rattle.rr_offsets.specs.Past.{IsDayAfterCycle, IsPastMoment}
use Rattle.rr_offsets.proofs.ListLemmas.{base, early_new, some_none}
use Rattle.rr_offsets.proofs.TableLemmas.{changes_early, zone_changes, zone_first}

-- ---- offsets

-- the offset before a first onset is less than a day
abbrev IsBelow : Option Onset → Type 0
IsBelow found = IsBelowDay (offset_before found)

earlier_below : (found : Option Onset) (b : Onset) → IsBelow found → IsBelowDay b.from → IsBelow (Some (earlier found b))
earlier_below None b p q = q
earlier_below (Some a) b p q = elim (int_le a.at b.at) as (λ c. IsBelowDay (if c then a else b).from) [ true ↦ p | false ↦ q ]

first_below : (found : Option Onset) (zone : List Observance) → All IsSoundObservance zone → IsBelow found → IsBelow (first_of_zone found zone)
first_below found [] sound p = p
first_below found (o ∷ os) sound p =
    let s = All-head IsSoundObservance o os sound in
    first_below (Some (earlier found (record { at = first_onset o; from = o.from; to = o.to }))) os (All-tail IsSoundObservance o os sound)
    (earlier_below found (record { at = first_onset o; from = o.from; to = o.to }) p (omega (arith, ints, s.from.low), omega (arith, ints, s.from.high)))

new_below : (zone : List Observance) → All IsSoundObservance zone → (u x : ℤ) → new_offset zone u ≡ Some x → IsBelowDay x
new_below [] sound u x e = absurd (none-some x e)
new_below (o ∷ os) sound u x e = by (begins o u) e (new_below os (All-tail IsSoundObservance o os sound) u x)
  where
    by : (b : Bool) → (if b then Some o.to else new_offset os u) ≡ Some x → (new_offset os u ≡ Some x → IsBelowDay x) → IsBelowDay x
    by true f more =
        let s = All-head IsSoundObservance o os sound in
        let g : o.to ≡ x = same_Some o.to x f in
        (omega (arith, ints, g, s.to.low), omega (arith, ints, g, s.to.high))
    by false f more = more f

-- ---- moments

new_late : (zone : List Observance) → All IsSoundObservance zone → (u x : ℤ) → new_offset zone u ≡ Some x → base <ℤ u
new_late zone sound u x e = by_lt_z {P = base <ℤ u} base u (λ l. l) (λ l. absurd (some_none x (new_offset zone u) e (early_new zone sound u l)))

module _ (zone : List Observance) (sound : All IsSoundObservance zone) (tables : List Table) (last p : ℤ) (listed : AreListed zone tables last)
    (day : IsDayAfterCycle p last) (past : IsPastMoment p) where
  -- the end of the list
  abbrev end : ℤ
  end = last *ℤ pos 86_400

  abbrev changes : List Change
  changes = changes_to end tables

  all_below : All (λ change. IsBelowDay change.offset) changes
  all_below = λ k d l. new_below zone sound _ _ ((zone_changes zone tables last listed).each k d l)

  near_at : (u x : ℤ) → new_offset zone u ≡ Some x → u <ℤ end → IsNear u
  near_at u x e early =
      let late = new_late zone sound u x e in
      let y = year_1 in
      (omega (arith, ints, late, y), omega (arith, ints, early, day.early))

  all_near : All (λ change. IsNear change.at) changes
  all_near = λ k d l. near_at _ _ ((zone_changes zone tables last listed).each k d l) (changes_early end tables k d l)

  pub sound_changes : (settled : ℤ) (days : ℕ) → p ≤ℤ settled → settled ≤ℤ end → 1 ≤ days → days ∣ 146_097
      → AreSoundChanges (offset_before (first_of None tables)) changes settled days
  sound_changes settled days late early some divides = record {
    first = subst IsBelowDay (sym (zone_first zone tables last listed)) (first_below None zone sound (omega (arith, ints), omega (arith, ints)));
    offsets = all_below;
    near = all_near;
    rising = (zone_changes zone tables last listed).rising;
    settled_near = (omega (arith, ints, late, past.late), omega (arith, ints, early, day.early));
    some_days = some;
    divides = divides;
  }
