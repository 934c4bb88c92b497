-- The offsets by the changes of a zone's tables are those of the zone.
use Rattle.std.proofs.Common.{◌≡◌, ℕ, ◌≤◌, true, ℤ, pos, ◌*ℤ◌, ◌≤ℤ◌, List, map, All, Contains, None, Some, sym, subst, ◌∙◌, arith}
use Rattle.std.specs.Int.{◌∣◌}
use Rattle.std.proofs.lemmas.Int.{ints}
use Rattle.std.proofs.Math.Nat.{dvd-mul_right}
use Rattle.rr_true.specs.Changes.{AreSoundChanges, moment_of, offsets_of}
use Rattle.rr_true.specs.declared.change.Change.{Change}
use Rattle.rr_zone.specs.Observances.{IsSoundObservance}
use Rattle.rr_zone.specs.Onsets.{first_of_zone}
use Rattle.rr_zone.specs.Tables.{AreListed, first_of}
use Rattle.rr_zone.specs.declared.clock.Table.{Table}
use Rattle.rr_zone.specs.declared.observance.Observance.{Observance}
use Rattle.rr_offsets.specs.Listing.{AreChangesOf, changes_to, first_from}
use Rattle.rr_offsets.specs.Offsets.{new_offset, offset_at, offset_before}
use Rattle.rr_offsets.specs.Past.{AreOver, IsDayAfterCycle, IsPastMoment}
use Rattle.rr_offsets.specs.Steady.{is_steady}
use Rattle.rr_offsets.proofs.LastingLemmas.{constant, lasting}
use Rattle.rr_offsets.proofs.SoundLemmas.{sound_changes}
use Rattle.rr_offsets.proofs.TableLemmas.{first_is, moment_early, none_from, zone_changes, zone_first}

-- What is known of the offset before all changes, of the changes, and of the moment from which on they are looked at.
pub record IsKnown (zone : List Observance) (p initial : ℤ) (changes : List Change) : Type 0 where
  pub tables : List Table
  pub last : ℤ
  pub listed : AreListed zone tables last
  pub day : IsDayAfterCycle p last
  pub past : IsPastMoment p
  pub first : initial ≡ offset_before (first_of None tables)
  pub all : changes ≡ changes_to (last *ℤ pos 86_400) tables

module _ (zone : List Observance) (sound : All IsSoundObservance zone) (p initial : ℤ) (changes : List Change) (known : IsKnown zone p initial changes) where
  -- the day up to which onsets are listed begins here
  abbrev end : ℤ
  end = known.last *ℤ pos 86_400

  are : AreChangesOf (new_offset zone) end changes
  are = subst (AreChangesOf (new_offset zone) end) (sym known.all) (zone_changes zone known.tables known.last known.listed)

  first : initial ≡ offset_before (first_of_zone None zone)
  first = known.first ∙ zone_first zone known.tables known.last known.listed

  sound_by : (settled : ℤ) (days : ℕ) → p ≤ℤ settled → settled ≤ℤ end → 1 ≤ days → days ∣ 146_097 → AreSoundChanges initial changes settled days
  sound_by settled days late early some divides =
      rw (known.first, known.all)
      (sound_changes zone sound known.tables known.last p known.listed known.day known.past settled days late early some divides)

  -- from a change on
  pub sound_from : (s : ℤ) → first_from changes p ≡ Some s → AreSoundChanges initial changes s 146_097
  sound_from s e =
      let f = first_is p changes s are.rising e in
      let m = moment_early end known.tables s (subst (λ cs. Contains (map moment_of cs) s) known.all f.there) in
      sound_by s 146_097 f.late (omega (arith, ints, m)) (omega arith) (dvd-mul_right 146_097 1)

  -- without a further change
  pub sound_after : AreSoundChanges initial changes p 1
  sound_after = sound_by p 1 (omega (arith, ints)) (omega (arith, ints, known.day.late)) (omega arith) (dvd-mul_right 1 146_097)

  module _ (steady : is_steady zone ≡ true) (over : AreOver p zone) where
    pub offsets_from : (s : ℤ) → first_from changes p ≡ Some s → (u : ℤ) → offsets_of initial changes s 146_097 u ≡ offset_at zone u
    offsets_from s e =
        let f = first_is p changes s are.rising e in
        lasting zone sound steady p over end initial changes are known.day.late first s f.there f.late f.least

    pub offsets_after : first_from changes p ≡ None → (u : ℤ) → offsets_of initial changes p 1 u ≡ offset_at zone u
    offsets_after e = constant zone sound steady p over end initial changes are known.day.late first (none_from p changes e)
