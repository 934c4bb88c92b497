-- Set positions of days that have one time each: a day on which a position is has that time.
use Rattle.std.proofs.Common.{◌≡◌, ℕ, ◌*◌, ◌<◌, ◌≤◌, true, false, List, [], length, get_or, Contains, ℤ, pos, refl, sym, ap, ◌∙◌, subst, arith}
use Rattle.std.specs.Prelude.{Option, Some, None, IsTrue, nat_lt}
use Rattle.std.proofs.lemmas.List.{get_or_default}
use Rattle.std.proofs.lemmas.List.Elements.{Contains-get_or}
use Rattle.std.proofs.Math.Seq.{take-length}
use Rattle.rr_model.specs.Moment.{moment_at}
use Rattle.rr_model.specs.Moment.Units.{is_whole_days}
use Rattle.rr_model.specs.Rising.Sets.{IsSetOf}
use Rattle.rr_model.specs.Rule.Chosen.{is_chosen}
use Rattle.rr_model.specs.Rule.DaysAndTimes.{IsCandidateTime, seconds_of}
use Rattle.rr_model.specs.Rule.Validity.{is_absent}
use Rattle.rr_model.specs.Sets.Tree.{Tree, chosen_of, stands_at}
use Rattle.rr_model.proofs.RisingSetLemmas.{one_list_of_seconds}
use Rattle.rr_lazy.specs.Next.{with_set}
use Rattle.rr_lazy.specs.declared.occupied_day.OccupiedDay.{OccupiedDay}
use Rattle.rr_walk.specs.Ruling.{AreUnitDays, Ruling}
use Rattle.rr_walk.specs.SetPositions.{HasPositionOn, IsAtSome}
use Rattle.rr_walk.specs.Walk.{IsDayWith, IsFirstOf, IsFirstOfIn, IsFirstSecond, IsOnDay}
use Rattle.rr_walk.proofs.PlainLemmas.{few_seconds}
use Rattle.rr_walk.proofs.SetPositionLemmas.{candidate_at, chosen_at_positions}
use Rattle.rr_walk.proofs.WalkLemmas.{seconds_of_day}

-- a day with the number of a set has that set
pub numbered : (sets : List (List ℕ)) (f : OccupiedDay) (day : ℤ) (times : List ℕ) (P : ℕ → Type 0) → f.day ≡ day → f.count ≡ length times
    → IsSetOf nat_lt times P → f.number.index < length sets → IsSetOf nat_lt (get_or sets f.number.index []) P → IsDayWith sets P day (Some f)
numbered sets f day times P same all set within kept =
    let one : get_or sets f.number.index [] ≡ times = one_list_of_seconds P (get_or sets f.number.index []) times kept set in
    let is : (with_set sets f).times ≡ times = rw (one, all) (take-length times) in
    (same, (within, rw one (omega (arith, all))), subst (λ xs. IsSetOf nat_lt xs P) (sym is) set)

-- so has the first of some days
pub first_with : (sets : List (List ℕ)) (tree : Tree) (days : List ℤ) (from : ℤ) (P : ℕ → Type 0) (day : ℤ) (r : Option OccupiedDay) → IsDayWith sets P day r
    → ((times : List ℕ) → IsSetOf nat_lt times P → IsFirstOf tree days from (Some (record { day = day; times = times }))) → IsFirstOfIn sets tree days from r
first_with sets tree days from P day None e first = absurd e
first_with sets tree days from P day (Some f) e first = (e.1, rw e.0 (first (with_set sets f).times e.2))

-- the one element of a list
only : (xs : List ℕ) (second s : ℕ) → length xs ≡ 1 → second ≡ get_or xs 0 0 → Contains xs s → s ≡ second
only xs second s one is c =
    let first : c.0 ≡ 0 = omega (arith, one, c.1) in sym (c.2) ∙ sym (get_or_default xs c.0 0 s c.1) ∙ ap (λ i. get_or xs i 0) first ∙ sym is

module _ (r : Ruling) (coarse : is_whole_days r.rule.freq ≡ true) (stands : is_absent r.rule.by_set_pos ≡ false) (times : List ℕ)
    (set : IsSetOf nat_lt times (IsCandidateTime r.rule r.kind r.start)) (one : length times ≡ 1) (second : ℕ) (is : second ≡ get_or times 0 0)
    (days : List ℤ) (unit_days : AreUnitDays r days) where
  abbrev tree : Tree
  tree = chosen_of r.rule r.kind r.start

  abbrev positions : List ℤ
  positions = r.rule.by_set_pos

  module _ (k : ℕ) (low : k < length days) (on : HasPositionOn positions (length times) (length days) k) where
    -- the time has the position
    at_some : IsSetOf nat_lt times (IsAtSome times (k * length times) (length days * length times) positions (length positions))
    at_some = record {
      rises = set.rises;
      exact = λ s. (
        (λ c. (let at = on.1.1 in
            let first : at.0 ≡ 0 = omega (arith, one, at.1.0) in
            let same : get_or times at.0 0 ≡ s = ap (λ i. get_or times i 0) first ∙ sym is ∙ sym (only times second s one is c) in
            (on.0, (on.1.0, (at.0, (at.1.0, same, at.1.1)))))),
        (λ h. (let at = h.1.1 in subst (Contains times) at.1.1 (Contains-get_or times at.0 0 at.1.0))),
      );
    }

    -- so it is chosen
    all_chosen : IsSetOf nat_lt times (λ s. (s < seconds_of r.kind) × IsTrue (is_chosen r.rule r.kind r.start (moment_at r.kind (get_or days k (pos 0)) s)))
    all_chosen =
        let day : ℤ = get_or days k (pos 0) in
        let at = candidate_at r days day k k (length days) unit_days low refl refl refl in
        chosen_at_positions r.rule r.kind r.start day coarse at.candidate times times k (length days) stands set at.before at.all at_some

    module _ (day : ℤ) (at : day ≡ get_or days k (pos 0)) (from : ℕ) (first : IsFirstSecond r.kind r.start day from) where
      stands_of : (cut : List ℕ) → IsSetOf nat_lt cut (λ s. Contains times s × (from ≤ s) × (s < 86_400))
          → IsSetOf nat_lt cut (λ s. IsTrue (stands_at tree day s))
      stands_of cut c =
          rw at (seconds_of_day r.rule r.kind r.start coarse (get_or days k (pos 0)) from times cut (rw at at first) all_chosen c)

      -- if it is not before the start
      pub on_chosen : from ≤ second → IsOnDay tree day (Some (record { day = day; times = times }))
      on_chosen late = (
        refl,
        (λ e. (let n = ap length e in omega (arith, n, one))),
        stands_of times (record {
          rises = set.rises;
          exact = λ s. (
            (λ c. (c, omega (arith, late, only times second s one is c), omega (arith, ((set.exact s).0 c).0, few_seconds r.kind))),
            (λ c. c.0),
          );
        }),
      )
