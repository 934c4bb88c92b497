-- Days whose first units lie alike to the interval: a finer rule chooses the same seconds on them.
use Rattle.std.proofs.Common.{◌≡◌, ℕ, ◌+◌, ◌-◌, ◌/◌, ◌&&◌, ◌<◌, ◌≤◌, ◌==◌, Bool, true, false, ℤ, pos, ◌+ℤ◌, ◌-ℤ◌, ◌*ℤ◌, refl, sym, ap, subst, ◌∙◌, arith}
use Rattle.std.proofs.Common.{inl, inr}
use Rattle.std.specs.Prelude.{IsTrue, List, [], length, get_or, slice_get, nat_lt, Option, Some, None}
use Rattle.std.proofs.lemmas.Bool.{cases_eq}
use Rattle.std.proofs.lemmas.Grind.{get_or-set_at}
use Rattle.std.proofs.lemmas.List.{get_or-set_other, length-set}
use Rattle.std.proofs.lemmas.Option.{get_or_from_slice_get, slice_get-get_or, slice_get_within}
use Rattle.std.proofs.Math.ListN.{set}
use Rattle.std.proofs.lemmas.Int.{ints}
use Rattle.std.proofs.Math.Bool.{and-true}
use Rattle.rr_model.specs.Whole.{divides, floor_div, floor_mod}
use Rattle.rr_model.specs.Moment.{day_part, moment_at, second_part}
use Rattle.rr_model.specs.Moment.Units.{is_whole_days, unit_number, unit_seconds}
use Rattle.rr_model.specs.Rising.Sets.{IsSetOf}
use Rattle.rr_model.specs.Rule.Candidate.{date_parts_hold, interval_holds, is_candidate, time_parts_hold}
use Rattle.rr_model.specs.Rule.Chosen.{is_chosen}
use Rattle.rr_model.specs.Rule.Filled.{filled_rule}
use Rattle.rr_model.specs.Rule.DaysAndTimes.{time_holds}
use Rattle.rr_model.specs.declared.kind.Kind.TheVariants.{Days, Moments}
use Rattle.rr_model.specs.declared.rule.Rule.{Rule}
use Rattle.rr_model.proofs.DaysAndTimesLemmas.{time_parts_hold-at}
use Rattle.rr_model.proofs.FloorLemmas.{*ℤ-add, floor_mod-add}
use Rattle.rr_model.proofs.MomentLemmas.{day_part-moment_at, second_part-moment_at}
use Rattle.rr_model.proofs.RisingSetLemmas.{set_same}
use Rattle.rr_model.proofs.WholeLemmas.{floor_whole}
use Rattle.rr_setpos.specs.Ranks.{begin_in_day, rank_by_parts, size_by_parts, times_before}
use Rattle.rr_setpos.proofs.PositionLemmas.{chosen_candidate, chosen_no_candidate}
use Rattle.rr_expand.proofs.FinerLemmas.{unit_at}
use Rattle.rr_expand.proofs.FitLemmas.{fits_at}
use Rattle.rr_shapes.specs.Tables.{Extends}
use Rattle.rr_shapes.specs.declared.ids.SetId.{SetId}
use Rattle.rr_walk.specs.Ruling.{IsSameRuling, KnowsUnitOffsets, Ruling, unit_offset, keeps_more}
use Rattle.rr_walk.proofs.OffsetLemmas.{fine_taken, if_not}

-- numbers from which on the first that fits the interval is as far away fit it alike
pub fits_alike : (n : ℕ) (a other b : ℤ) (k : ℕ) → 1 ≤ n → floor_mod (b -ℤ a) n ≡ floor_mod (b -ℤ other) n → fits_at n a b k ≡ fits_at n other b k
fits_alike n a other b k some e =
    let q = floor_div (b -ℤ a) n in
    let r = floor_div (b -ℤ other) n in
    let back : (r -ℤ q) +ℤ q ≡ r = omega (arith, ints) in
    let turn : (a +ℤ pos k) -ℤ b ≡ ((other +ℤ pos k) -ℤ b) +ℤ ((r -ℤ q) *ℤ pos n) =
    omega (
      arith,
      ints,
      e,
      floor_whole (b -ℤ a) n some,
      floor_whole (b -ℤ other) n some,
      *ℤ-add (r -ℤ q) q n,
      ap (λ z. z *ℤ pos n) back,
    ) in
    ap (λ z. floor_mod z n == 0) turn ∙ ap (λ m. m == 0) (floor_mod-add ((other +ℤ pos k) -ℤ b) (r -ℤ q) n some)

-- a day that the date parts allow
abbrev Allowed : Rule → ℤ → ℤ → Type 0
Allowed rule start day = IsTrue (date_parts_hold (filled_rule rule Days (day_part Moments start)) day)

-- there the interval and the time parts decide
on_allowed : (rule : Rule) (start day : ℤ) (s : ℕ) → s < 86_400 → Allowed rule start day
    → is_candidate rule Moments start (moment_at Moments day s)
    ≡ (interval_holds rule Moments start (moment_at Moments day s) && time_holds rule Moments start s)
unfolding is_candidate
on_allowed rule start day s low allowed =
    let fits : Bool = interval_holds rule Moments start (moment_at Moments day s) in
    let dates : date_parts_hold (filled_rule rule Moments start) (day_part Moments (moment_at Moments day s)) ≡ true =
    ap (date_parts_hold (filled_rule rule Moments start)) (day_part-moment_at day s low) ∙ allowed in
    ap (λ b. fits && b && time_parts_hold (filled_rule rule Moments start) Moments (moment_at Moments day s)) dates
    ∙ ap (λ b. b && time_parts_hold (filled_rule rule Moments start) Moments (moment_at Moments day s)) (and-true fits)
    ∙ ap (λ b. fits && b) (time_parts_hold-at (filled_rule rule Moments start) day s low ∙ sym (time_parts_hold-at (filled_rule rule Moments start) (pos 0) s low))

-- set positions ask the second of the day alone
ranks_alike : (rule : Rule) (start day other : ℤ) (s : ℕ) → s < 86_400 → is_whole_days rule.freq ≡ false
    → (rank_by_parts rule Moments start (moment_at Moments day s) ≡ rank_by_parts rule Moments start (moment_at Moments other s))
    × (size_by_parts rule Moments start (moment_at Moments day s) ≡ size_by_parts rule Moments start (moment_at Moments other s))
ranks_alike rule start day other s low fine =
    let same : second_part Moments (moment_at Moments day s) ≡ second_part Moments (moment_at Moments other s) =
    second_part-moment_at day s low ∙ sym (second_part-moment_at other s low) in (
      if_not (is_whole_days rule.freq) _ _ fine ∙ ap (λ n. times_before rule Moments start n - times_before rule Moments start (begin_in_day rule n)) same
          ∙ sym (if_not (is_whole_days rule.freq) _ _ fine),
      if_not (is_whole_days rule.freq) _ _ fine
          ∙ ap (λ n. times_before rule Moments start (begin_in_day rule n + unit_seconds rule.freq)
          - times_before rule Moments start (begin_in_day rule n)) same
          ∙ sym (if_not (is_whole_days rule.freq) _ _ fine),
    )

module _ (r : Ruling) (day other : ℤ) (fine : is_whole_days r.rule.freq ≡ false) (some : 1 ≤ r.rule.interval)
    (allowed : IsTrue (date_parts_hold (filled_rule r.rule Days (day_part Moments r.start)) day))
    (other_allowed : IsTrue (date_parts_hold (filled_rule r.rule Days (day_part Moments r.start)) other)) (same : unit_offset r day ≡ unit_offset r other) where
  interval_alike : (s : ℕ) → interval_holds r.rule Moments r.start (moment_at Moments day s) ≡ interval_holds r.rule Moments r.start (moment_at Moments other s)
  interval_alike s =
      let own = unit_number r.rule.freq r.rule.week_start Moments r.start in
      ap (λ u. divides r.rule.interval (u -ℤ own)) (unit_at r.rule.freq r.rule.week_start day s fine)
      ∙ fits_alike r.rule.interval _ _ own (s / unit_seconds r.rule.freq) some same
      ∙ sym (ap (λ u. divides r.rule.interval (u -ℤ own)) (unit_at r.rule.freq r.rule.week_start other s fine))

  candidate_alike : (s : ℕ) → s < 86_400
      → is_candidate r.rule Moments r.start (moment_at Moments day s) ≡ is_candidate r.rule Moments r.start (moment_at Moments other s)
  candidate_alike s low =
      on_allowed r.rule r.start day s low allowed ∙ ap (λ b. b && time_holds r.rule Moments r.start s) (interval_alike s)
      ∙ sym (on_allowed r.rule r.start other s low other_allowed)

  pub chosen_alike : (s : ℕ) → s < 86_400
      → is_chosen r.rule Moments r.start (moment_at Moments day s) ≡ is_chosen r.rule Moments r.start (moment_at Moments other s)
  chosen_alike s low =
      elim (is_candidate r.rule Moments r.start (moment_at Moments day s)) as
      (λ b. is_candidate r.rule Moments r.start (moment_at Moments day s) ≡ b
      → is_chosen r.rule Moments r.start (moment_at Moments day s) ≡ is_chosen r.rule Moments r.start (moment_at Moments other s)) [
        | true ↦ λ e. (let f = sym (candidate_alike s low) ∙ e in
            let k = ranks_alike r.rule r.start day other s low fine in
            chosen_candidate r.rule Moments r.start (moment_at Moments day s) (fine_taken r.rule.freq) e ∙ rw (k.0, k.1) refl
            ∙ sym (chosen_candidate r.rule Moments r.start (moment_at Moments other s) (fine_taken r.rule.freq) f))
        | false ↦
            λ e. chosen_no_candidate r.rule Moments r.start (moment_at Moments day s) e
            ∙ sym (chosen_no_candidate r.rule Moments r.start (moment_at Moments other s) (sym (candidate_alike s low) ∙ e))
      ] refl

  -- the seconds chosen on one of the two days are those chosen on the other
  pub set_alike : (times : List ℕ) → IsSetOf nat_lt times (λ s. (s < 86_400) × IsTrue (is_chosen r.rule Moments r.start (moment_at Moments day s)))
      → IsSetOf nat_lt times (λ s. (s < 86_400) × IsTrue (is_chosen r.rule Moments r.start (moment_at Moments other s)))
  set_alike times set =
      set_same nat_lt _ (λ s. (s < 86_400) × IsTrue (is_chosen r.rule Moments r.start (moment_at Moments other s))) times set
      (λ s. ((λ h. (h.0, sym (chosen_alike s h.0) ∙ h.1)), (λ h. (h.0, chosen_alike s h.0 ∙ h.1))))

-- ---- the numbers that are kept

-- nothing
pub knows_none : (r : Ruling) (sets : List (List ℕ)) → ((k : ℕ) → k < length r.kept → get_or r.kept k None ≡ None) → KnowsUnitOffsets r sets
knows_none r sets none day near allowed n at =
    let offset : ℕ = unit_offset r day in
    let low : offset < length r.kept = slice_get_within r.kept offset (Some n) at in
    let e : Some n ≡ None = sym (get_or_from_slice_get r.kept offset (Some n) None at) ∙ none offset low in
    absurd (cc)

module _ (r : Ruling) (old new : List (List ℕ)) (day : ℤ) (number : SetId) (times : List ℕ) (fine : is_whole_days r.rule.freq ≡ false) (some : 1 ≤ r.rule.interval)
    (allowed : IsTrue (date_parts_hold (filled_rule r.rule Days (day_part Moments r.start)) day)) (at : slice_get new number.index ≡ Some times)
    (chosen : IsSetOf nat_lt times (λ s. (s < 86_400) × IsTrue (is_chosen r.rule Moments r.start (moment_at Moments day s)))) where
  -- the number of what is chosen on a day
  pub number_of : (number.index < length new) × IsSetOf nat_lt (get_or new number.index []) (λ s. (s < 86_400)
      × IsTrue (is_chosen r.rule Moments r.start (moment_at Moments day s)))
  number_of = (slice_get_within new number.index times at, rw (get_or_from_slice_get new number.index times [] at) chosen)

  kept_there : (kept : List (Option SetId)) → kept ≡ set r.kept (unit_offset r day) (Some number) → KnowsUnitOffsets r old → Extends old new
      → KnowsUnitOffsets (record { rule = r.rule; kind = r.kind; start = r.start; kept = kept }) new
  kept_there kept e known more other near other_allowed n here =
      let offset : ℕ = unit_offset r day in
      let p : ℕ = unit_offset r other in
      let low : p < length r.kept = omega (arith, slice_get_within kept p (Some n) here, ap length e, length-set r.kept offset (Some number)) in
      let held : get_or (set r.kept offset (Some number)) p None ≡ Some n =
      ap (λ xs. get_or xs p None) (sym e) ∙ get_or_from_slice_get kept p (Some n) None here in
      elim (cases_eq p offset) [
        | inl same ↦ (
            let own : get_or (set r.kept offset (Some number)) p None ≡ Some number =
            get_or-set_at r.kept offset p (Some number) None same (omega (arith, low, same)) in
            let i : n ≡ number = cc in
            rw i (number_of.0, set_alike r day other fine some allowed other_allowed (sym same) (get_or new number.index []) number_of.1))
        | inr differ ↦ (
            let is : slice_get r.kept p ≡ Some (Some n) =
            slice_get-get_or r.kept p None low ∙ ap (λ x. Some x) (sym (get_or-set_other r.kept offset p (Some number) None differ) ∙ held) in
            keeps_more r p _ old new more (known other near other_allowed) n is)
      ]

  -- kept at the offset of its day
  pub knows_put : (q : Ruling) → IsSameRuling q r → q.kept ≡ set r.kept (unit_offset r day) (Some number) → KnowsUnitOffsets r old → Extends old new
      → KnowsUnitOffsets q new
  knows_put q same e known more =
      let is : record { rule = r.rule; kind = r.kind; start = r.start; kept = q.kept } ≡ q =
      λ i. record { rule = sym same.rule i; kind = sym same.kind i; start = sym same.start i; kept = q.kept } in
      subst (λ x. KnowsUnitOffsets x new) is (kept_there q.kept e known more)
