-- Stretches of moments with one offset.
use Rattle.std.proofs.Common.{◌≡◌, ◌⊎◌, inl, inr, ℕ, zero, suc, ◌+◌, ◌-◌, ◌<◌, ◌≤◌, true, false, cond, List, [], ◌∷◌, length, get_or, map, ℤ, pos, negsuc, ◌+ℤ◌, ◌-ℤ◌, ◌*ℤ◌, ◌≤ℤ◌, ◌<ℤ◌, refl, sym, ap, ◌∙◌, arith}
use Rattle.std.specs.Prelude.{int_le, int_lt, nat_abs}
use Rattle.std.proofs.Math.Nat.{mod-le}
use Rattle.std.specs.List.{All}
use Rattle.std.specs.List.Sorted.{IsPartitionedBy, IsPartitionPoint}
use Rattle.std.proofs.lemmas.Bool.{cases_lt}
use Rattle.std.proofs.lemmas.Int.{ints, by_lt_z}
use Rattle.std.proofs.lemmas.List.{get_or-map, get_or_default, length-map}
use Rattle.rr_model.specs.Rising.{Rises}
use Rattle.rr_model.specs.Whole.{floor_div, floor_mod}
use Rattle.rr_model.proofs.RisingSetLemmas.{rising_dates}
use Rattle.rr_model.proofs.FloorLemmas.{floor_mod-add}
use Rattle.rr_model.proofs.WholeLemmas.{floor_only, floor_whole}
use Rattle.rr_true.specs.Changes.{IsBelowDay, moment_in_cycle, moment_of, offset_by}
use Rattle.rr_true.specs.Spans.{IsCountUpTo, IsSpan}
use Rattle.rr_true.specs.declared.change.Change.{Change}

-- ---- one change

pub offset_before : (offset : ℤ) (c : Change) (cs : List Change) (v : ℤ) → v <ℤ c.at → offset_by offset (c ∷ cs) v ≡ offset
offset_before offset c cs v l =
    let e : int_lt v c.at ≡ true = grind (arith, ints) in ap (λ b. cond b offset (offset_by c.offset cs v)) e

pub offset_after : (offset : ℤ) (c : Change) (cs : List Change) (v : ℤ) → c.at ≤ℤ v → offset_by offset (c ∷ cs) v ≡ offset_by c.offset cs v
offset_after offset c cs v l =
    let e : int_lt v c.at ≡ false = grind (arith, ints) in ap (λ b. cond b offset (offset_by c.offset cs v)) e

-- offsets less than a day are less than a day at each moment
pub below_day : (initial : ℤ) (cs : List Change) (v : ℤ) → IsBelowDay initial → All (λ c. IsBelowDay c.offset) cs → IsBelowDay (offset_by initial cs v)
below_day initial [] v first rest = first
below_day initial (c ∷ cs) v first rest =
    by_lt_z {P = IsBelowDay (offset_by initial (c ∷ cs) v)} v c.at
    (λ l. rw (offset_before initial c cs v l) first)
    (λ l. rw (offset_after initial c cs v l) (below_day c.offset cs v (rest 0 c (omega arith)) (λ k d h. rest (suc k) d (omega arith))))

-- behind all changes the offset stays the same
pub past_all : (initial : ℤ) (cs : List Change) (settled v w : ℤ) → All (λ c. c.at ≤ℤ settled) cs → settled ≤ℤ v → settled ≤ℤ w
    → offset_by initial cs v ≡ offset_by initial cs w
past_all initial [] settled v w all l m = refl
past_all initial (c ∷ cs) settled v w all l m =
    let first : c.at ≤ℤ settled = all 0 c (omega arith) in
    offset_after initial c cs v (omega (arith, ints, first, l)) ∙ past_all c.offset cs settled v w (λ k d h. all (suc k) d (omega arith)) l m
    ∙ sym (offset_after initial c cs w (omega (arith, ints, first, m)))

-- ---- how many changes are not after a moment

rises_to : (changes : List Change) → Rises int_lt (map moment_of changes) → (i j : ℕ) (d : Change) → i ≤ j → j < length changes
    → (get_or changes i d).at ≤ℤ (get_or changes j d).at
rises_to changes r i j d l h =
    elim (cases_lt i j) [
      | inl m ↦
          (let a = get_or-map moment_of changes i d (pos 0) (omega arith) in
          let b = get_or-map moment_of changes j d (pos 0) h in
          let s = rising_dates (map moment_of changes) r i j m (omega (arith, h, length-map changes moment_of)) in
          omega (arith, ints, a, b, s))
      | inr m ↦
          (let e : i ≡ j = omega arith in omega (arith, ints, ap (λ n. (get_or changes n d).at) e))
    ]

-- if the last change is not after a moment, none is
pub end_all : (changes : List Change) (at : ℤ) (d : Change) → Rises int_lt (map moment_of changes) → (get_or changes (length changes - 1) d).at ≤ℤ at
    → All (λ c. c.at ≤ℤ at) changes
end_all changes at d r l k e h =
    let s = rises_to changes r k (length changes - 1) d (omega (arith, h)) (omega (arith, h)) in
    let same = get_or_default changes k e d h in
    let here : (get_or changes k e).at ≡ (get_or changes k d).at = ap (λ c. c.at) same in
    omega (arith, ints, s, l, here)

pub parted : (changes : List Change) (at : ℤ) → Rises int_lt (map moment_of changes) → IsPartitionedBy (λ c. int_le c.at at) changes
parted changes at r i j d le lt e =
    let m : (get_or changes i d).at ≤ℤ (get_or changes j d).at = rises_to changes r i j d le lt in grind (arith, ints)

pub counted : (changes : List Change) (at : ℤ) (count : ℕ) → count ≤ length changes
    → IsPartitionPoint (λ c. int_le c.at at ≡ true) (λ c. int_le c.at at ≡ false) changes count → IsCountUpTo changes at count
counted changes at count l p = record {
  within = l;
  below = λ k d h. (let t : int_le (get_or changes k d).at at ≡ true = p.0 k d (omega arith) h in grind (arith, ints));
  from = λ k d h m. (let t : int_le (get_or changes k d).at at ≡ false = p.1 k d h m in grind (arith, ints));
}

-- ---- the offset after so many changes

-- the offset after the first changes
abbrev pub offset_past : ℤ → List Change → ℕ → Change → ℤ
offset_past initial changes zero d = initial
offset_past initial changes (suc n) d = (get_or changes n d).offset

-- the first changes are not after a moment, and the next one is
record IsPlace (changes : List Change) (v : ℤ) (count : ℕ) (d : Change) : Type 0 where
  within : count ≤ length changes
  below : (k : ℕ) → k < count → (get_or changes k d).at ≤ℤ v
  next : count < length changes → v <ℤ (get_or changes count d).at

at_place : (initial : ℤ) (changes : List Change) (v : ℤ) (count : ℕ) (d : Change) → IsPlace changes v count d
    → offset_by initial changes v ≡ offset_past initial changes count d
at_place initial [] v zero d p = refl
at_place initial [] v (suc n) d p = absurd (omega (arith, p.within))
at_place initial (c ∷ cs) v zero d p = offset_before initial c cs v (p.next (omega arith))
at_place initial (c ∷ cs) v (suc n) d p =
    offset_after initial c cs v (p.below 0 (omega arith)) ∙ at_place c.offset cs v n d (record {
      within = omega (arith, p.within);
      below = λ k h. p.below (suc k) (omega arith);
      next = λ h. p.next (omega arith);
    }) ∙ same n
  where
    same : (m : ℕ) → offset_past c.offset cs m d ≡ (get_or (c ∷ cs) m d).offset
    same zero = refl
    same (suc m) = refl

-- the offset stays the same up to the next change
pub stays : (initial : ℤ) (changes : List Change) (at v : ℤ) (count : ℕ) (d : Change) → IsCountUpTo changes at count → at ≤ℤ v
    → (count < length changes → v <ℤ (get_or changes count d).at) → offset_by initial changes v ≡ offset_past initial changes count d
stays initial changes at v count d is l next = at_place initial changes v count d (record {
  within = is.within;
  below = λ k h. (let m = is.below k d h in omega (arith, ints, m, l));
  next = next;
})

-- the stretch after so many changes
pub span_is : (initial : ℤ) (changes : List Change) (at end offset : ℤ) (count : ℕ) → IsCountUpTo changes at count → at <ℤ end
    → ((d : Change) → count < length changes → end ≤ℤ (get_or changes count d).at) → (count ≡ 0 → offset ≡ initial)
    → ((d : Change) → 0 < count → offset ≡ (get_or changes (count - 1) d).offset)
    → IsSpan (offset_by initial changes) at (record { end = end; offset = offset })
span_is initial changes at end offset count is later change none some = record {
  one = λ v l h. stays initial changes at v count any is l (λ m. (let e = change any m in omega (arith, ints, e, h))) ∙ sym (past count none some);
  later = later;
}
  where
    any : Change
    any = record { at = pos 0; offset = pos 0 }

    past : (n : ℕ) → (n ≡ 0 → offset ≡ initial) → ((d : Change) → 0 < n → offset ≡ (get_or changes (n - 1) d).offset)
        → offset ≡ offset_past initial changes n any
    past zero e f = e refl
    past (suc n) e f = let p : suc n - 1 ≡ n = omega arith in f any (omega arith) ∙ ap (λ m. (get_or changes m any).offset) p

-- ---- cycles

mod_most : (z : ℤ) (c : ℕ) → pos 0 ≤ℤ z → pos (floor_mod z c) ≤ℤ z
mod_most (pos a) c l = omega (arith, ints, mod-le a c)
mod_most (negsuc a) c l = absurd (omega (arith, ints, l))

mod_small : (z : ℤ) (c : ℕ) → pos 0 ≤ℤ z → z <ℤ pos c → pos (floor_mod z c) ≡ z
mod_small z c l h =
    let o = floor_only z (pos 0) c (nat_abs z) (omega (arith, ints)) (omega (arith, ints)) in
    omega (arith, ints, o.1)

module _ (settled : ℤ) (c : ℕ) (some : 1 ≤ c) where
  in_cycle_before : (u : ℤ) → u <ℤ settled → moment_in_cycle settled c u ≡ u
  in_cycle_before u l =
      let e : int_lt u settled ≡ true = grind (arith, ints) in ap (λ b. cond b u (settled +ℤ pos (floor_mod (u -ℤ settled) c))) e

  in_cycle_from : (u : ℤ) → settled ≤ℤ u → moment_in_cycle settled c u ≡ settled +ℤ pos (floor_mod (u -ℤ settled) c)
  in_cycle_from u l =
      let e : int_lt u settled ≡ false = grind (arith, ints) in ap (λ b. cond b u (settled +ℤ pos (floor_mod (u -ℤ settled) c))) e

  -- not later than the moment
  pub in_cycle_most : (u : ℤ) → moment_in_cycle settled c u ≤ℤ u
  in_cycle_most u =
      by_lt_z {P = moment_in_cycle settled c u ≤ℤ u} u settled
      (λ l. omega (arith, ints, in_cycle_before u l))
      (λ l. most l (in_cycle_from u l))
    where
      most : settled ≤ℤ u → moment_in_cycle settled c u ≡ settled +ℤ pos (floor_mod (u -ℤ settled) c) → moment_in_cycle settled c u ≤ℤ u
      most l e = let m = mod_most (u -ℤ settled) c (omega (arith, ints, l)) in omega (arith, ints, e, m)

  -- the moment itself, or one that is not before the settled one
  pub in_cycle_turn : (u : ℤ) → (moment_in_cycle settled c u ≡ u) ⊎ (settled ≤ℤ moment_in_cycle settled c u)
  in_cycle_turn u =
      by_lt_z {P = (moment_in_cycle settled c u ≡ u) ⊎ (settled ≤ℤ moment_in_cycle settled c u)} u settled
      (λ l. inl (in_cycle_before u l))
      (λ l. inr (omega (arith, ints, in_cycle_from u l)))

  -- from a moment on, up to the end of its cycle, moments lie as in the first cycle
  pub in_cycle_more : (u v : ℤ) → u ≤ℤ v → ((v -ℤ u) +ℤ moment_in_cycle settled c u) <ℤ (settled +ℤ pos c)
      → moment_in_cycle settled c v ≡ (v -ℤ u) +ℤ moment_in_cycle settled c u
  in_cycle_more u v l h =
      by_lt_z {P = moment_in_cycle settled c v ≡ (v -ℤ u) +ℤ moment_in_cycle settled c u} u settled
      (λ m. before m (in_cycle_before u m))
      (λ m. behind m (in_cycle_from u m))
    where
      before : u <ℤ settled → moment_in_cycle settled c u ≡ u → moment_in_cycle settled c v ≡ (v -ℤ u) +ℤ moment_in_cycle settled c u
      before m e =
          by_lt_z {P = moment_in_cycle settled c v ≡ (v -ℤ u) +ℤ moment_in_cycle settled c u} v settled
          (λ n. omega (arith, ints, e, in_cycle_before v n))
          (λ n.
          let small = mod_small (v -ℤ settled) c (omega (arith, ints, n)) (omega (arith, ints, e, h)) in
          omega (arith, ints, e, small, in_cycle_from v n))

      behind : settled ≤ℤ u → moment_in_cycle settled c u ≡ settled +ℤ pos (floor_mod (u -ℤ settled) c)
          → moment_in_cycle settled c v ≡ (v -ℤ u) +ℤ moment_in_cycle settled c u
      behind m e =
          let w = floor_whole (u -ℤ settled) c some in
          let o = floor_only (v -ℤ settled) (floor_div (u -ℤ settled) c) c (floor_mod (u -ℤ settled) c + nat_abs (v -ℤ u))
          (omega (arith, ints, e, h, l)) (omega (arith, ints, w, l)) in
          omega (arith, ints, e, o.1, l, in_cycle_from v (omega (arith, ints, l, m)))

  pub in_cycle_repeats : (u : ℤ) → settled ≤ℤ u → moment_in_cycle settled c (u +ℤ pos c) ≡ moment_in_cycle settled c u
  in_cycle_repeats u l =
      let e : (u +ℤ pos c) -ℤ settled ≡ (u -ℤ settled) +ℤ (pos 1 *ℤ pos c) = omega (arith, ints) in
      in_cycle_from (u +ℤ pos c) (omega (arith, ints, l)) ∙ ap (λ z. settled +ℤ pos (floor_mod z c)) e
      ∙ ap (λ n. settled +ℤ pos n) (floor_mod-add (u -ℤ settled) (pos 1) c some) ∙ sym (in_cycle_from u l)
