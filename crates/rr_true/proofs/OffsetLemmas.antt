-- The offsets of a zone, for ever.
use Rattle.std.proofs.Common.{◌≡◌, inl, inr, ℕ, ◌*◌, ◌≤◌, List, [], ℤ, pos, neg_ℤ, ◌+ℤ◌, ◌-ℤ◌, ◌≤ℤ◌, ◌<ℤ◌, refl, ap, subst, ◌∙◌, arith}
use Rattle.std.specs.List.{All}
use Rattle.std.proofs.lemmas.Int.{ints}
use Rattle.std.proofs.Math.Nat.{one-dvd}
use Rattle.std.proofs.lemmas.Nat.Gcd.{le_of_dvd}
use Rattle.rr_model.specs.Whole.Periodic.{RepeatsFrom}
use Rattle.rr_true.specs.Changes.{AreSoundChanges, IsBelowDay, ZoneOffsets, moment_in_cycle, offset_by, offset_of, offsets_of}
use Rattle.rr_true.specs.Moments.{IsOffset}
use Rattle.rr_true.specs.Near.{IsInReach}
use Rattle.rr_true.specs.Spans.{IsSpan}
use Rattle.rr_true.specs.declared.change.Change.{Change}
use Rattle.rr_true.specs.declared.span.Span.{Span}
use Rattle.rr_true.proofs.SpanLemmas.{below_day, in_cycle_more, in_cycle_most, in_cycle_repeats, in_cycle_turn, past_all}

-- a zone by its parts
pub by_parts : (initial : ℤ) (changes : List Change) (settled : ℤ) (days : ℕ) (u : ℤ)
    → offset_of (record { initial = initial; changes = changes; settled = settled; days = days }) u ≡ offsets_of initial changes settled days u
unfolding offset_of
by_parts initial changes settled days u = refl

-- one that never changes is sound
pub one_offset_sound : (offset : ℤ) (changes : List Change) → changes ≡ [] → IsBelowDay offset → AreSoundChanges offset changes (pos 0) 1
one_offset_sound offset changes e below = rw e (record {
  first = below;
  offsets = λ k d h. absurd (omega arith);
  near = λ k d h. absurd (omega arith);
  rising = tt;
  settled_near = (omega (arith, ints), omega (arith, ints));
  some_days = omega arith;
  divides = one-dvd 146_097;
})

module _ (zone : ZoneOffsets) (sound : AreSoundChanges zone.initial zone.changes zone.settled zone.days) where
  some : 1 ≤ zone.days * 86_400
  some = omega (arith, sound.some_days)

  pub is_offset : IsOffset (offset_of zone)
  unfolding offset_of
  is_offset u = below_day zone.initial zone.changes (moment_in_cycle zone.settled (zone.days * 86_400) u) sound.first sound.offsets

  pub repeats : RepeatsFrom (offset_of zone) zone.settled (zone.days * 86_400)
  unfolding offset_of
  repeats u l = ap (offset_by zone.initial zone.changes) (in_cycle_repeats zone.settled (zone.days * 86_400) some u l)

  -- a stretch of the first cycle, moved to where a moment lies
  pub span_of : (moment first end offset : ℤ) → first ≡ moment_in_cycle zone.settled (zone.days * 86_400) moment
      → IsSpan (offset_by zone.initial zone.changes) first (record { end = end; offset = offset })
      → end ≤ℤ (zone.settled +ℤ pos (zone.days * 86_400))
      → IsSpan (offset_of zone) moment (record { end = end +ℤ (moment -ℤ first); offset = offset })
  unfolding offset_of
  span_of moment first end offset e span last = record {
    one = λ v l h.
        (let more = in_cycle_more zone.settled (zone.days * 86_400) some moment v l (omega (arith, ints, e, h, last)) in
        let place : moment_in_cycle zone.settled (zone.days * 86_400) v ≡ (v -ℤ moment) +ℤ first = omega (arith, ints, more, e) in
        ap (offset_by zone.initial zone.changes) place
        ∙ span.one ((v -ℤ moment) +ℤ first) (omega (arith, ints, l)) (omega (arith, ints, h)));
    later = (let m = span.later in omega (arith, ints, m));
  }

  -- what is known of the end of a stretch that is moved to where a moment lies
  pub record IsTurned (moment first end : ℤ) : Type 0 where
    pub early : pos 0 ≤ℤ (moment -ℤ first)
    pub few : (moment -ℤ first) ≤ℤ pos 600_000_000_000_000_000
    pub low : neg_ℤ (pos 500_000_000_000_000_000) ≤ℤ (end +ℤ (moment -ℤ first))
    pub high : (end +ℤ (moment -ℤ first)) ≤ℤ pos 1_000_000_000_000_000_000

  pub turned : (moment first end : ℤ) → IsInReach moment → first ≡ moment_in_cycle zone.settled (zone.days * 86_400) moment
      → first <ℤ end → end ≤ℤ (zone.settled +ℤ pos (zone.days * 86_400)) → IsTurned moment first end
  turned moment first end near e later last =
      let most : zone.days ≤ 146_097 = le_of_dvd (omega arith) sound.divides in
      let least = in_cycle_most zone.settled (zone.days * 86_400) some moment in
      let turn = in_cycle_turn zone.settled (zone.days * 86_400) some moment in
      elim turn [
        | inl same ↦
            (let m : moment ≡ first = omega (arith, ints, same, e) in
            record {
              early = omega (arith, ints, m);
              few = omega (arith, ints, m);
              low = omega (arith, ints, m, near.0, later);
              high = omega (arith, ints, m, last, most, sound.settled_near.1);
            })
        | inr from ↦
            (let m : zone.settled ≤ℤ first = omega (arith, ints, from, e) in
            let l : first ≤ℤ moment = omega (arith, ints, least, e) in
            record {
              early = omega (arith, ints, l);
              few = omega (arith, ints, m, near.1, sound.settled_near.0);
              low = omega (arith, ints, near.0, later, l);
              high = omega (arith, ints, m, last, most, near.1);
            })
      ]

  -- a cycle is 400 years at most
  pub cycle_few : zone.days * 86_400 ≤ 12_622_780_800
  cycle_few = let most : zone.days ≤ 146_097 = le_of_dvd (omega arith) sound.divides in omega (arith, most)

  -- the offset of a stretch is less than a day
  pub offset_below : (first : ℤ) (span : Span) → IsSpan (offset_by zone.initial zone.changes) first span → IsBelowDay span.offset
  offset_below first span s =
      subst IsBelowDay (s.one first (omega (arith, ints)) s.later) (below_day zone.initial zone.changes first sound.first sound.offsets)

  -- if no change is later than the settled moment, the changes alone tell the offset
  module _ (ended : All (λ c. c.at ≤ℤ zone.settled) zone.changes) where
    ended_is : (u : ℤ) → offset_of zone u ≡ offset_by zone.initial zone.changes u
    unfolding offset_of
    ended_is u =
        elim (in_cycle_turn zone.settled (zone.days * 86_400) some u) [
          | inl same ↦ ap (offset_by zone.initial zone.changes) same
          | inr from ↦
              (let most = in_cycle_most zone.settled (zone.days * 86_400) some u in
              past_all zone.initial zone.changes zone.settled (moment_in_cycle zone.settled (zone.days * 86_400) u) u ended from
              (omega (arith, ints, from, most)))
        ]

    pub ended_span : (moment : ℤ) (span : Span) → IsSpan (offset_by zone.initial zone.changes) moment span → IsSpan (offset_of zone) moment span
    ended_span moment span s = record { one = λ v l h. ended_is v ∙ s.one v l h; later = s.later }
