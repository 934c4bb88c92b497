-- What was counted of rules, gathered one rule after another.
use Rattle.std.proofs.Common.{◌≡◌, ℕ, ◌+◌, ◌<◌, ◌≤◌, List, [], ◌∷◌, ◌++◌, length, get_or, ℤ, refl, sym, subst, ◌∙◌, inl, inr, arith}
use Rattle.std.specs.Prelude.{Option, None}
use Rattle.std.proofs.lemmas.Bool.{cases_lt}
use Rattle.std.proofs.lemmas.List.{get_or_append_left, get_or_at, get_or_default, length-append}
use Rattle.rr_model.specs.declared.kind.Kind.{Kind}
use Rattle.rr_model.specs.declared.rule.Rule.{Rule}
use Rattle.rr_iter.specs.Counts.{AreCounts, IsCountOf}
use Rattle.rr_iter.specs.declared.counts.CycleCount.{CycleCount}

-- the counts of the first n rules
pub record AreCounted (kind : Kind) (start : ℤ) (rules : List Rule) (asked : ℕ) (counts : List (Option CycleCount)) : Type 0 where
  pub within : asked ≤ length rules
  pub whole : length counts ≡ asked
  pub each : (k : ℕ) (rule : Rule) → k < asked → IsCountOf kind start (get_or rules k rule) (get_or counts k None)

module _ (kind : Kind) (start : ℤ) (rules : List Rule) where
  -- none was asked
  pub counted_none : AreCounted kind start rules 0 []
  counted_none = record { within = omega arith; whole = refl; each = λ k d w. absurd (omega (arith, w)) }

  module _ (asked : ℕ) (counts : List (Option CycleCount)) (g : AreCounted kind start rules asked counts) where
    -- one rule more
    pub counted_more : (rule : Rule) (own : Option CycleCount) → asked < length rules → get_or rules asked rule ≡ rule
        → IsCountOf kind start rule own → AreCounted kind start rules (asked + 1) (counts ++ own ∷ [])
    counted_more rule own l e known =
        let long : length (counts ++ own ∷ []) ≡ asked + 1 = omega (arith, length-append counts (own ∷ []), g.whole) in
        record {
          within = omega (arith, l);
          whole = long;
          each = λ k d w. elim (cases_lt k asked) [
            | inl c ↦ (
                let same : get_or (counts ++ own ∷ []) k None ≡ get_or counts k None = get_or_append_left counts (own ∷ []) None k (omega (arith, c, g.whole)) in
                subst (IsCountOf kind start (get_or rules k d)) (sym same) (g.each k d c))
            | inr c ↦ (
                let same : k ≡ asked = omega (arith, c, w) in
                let last : get_or (counts ++ own ∷ []) k None ≡ own = get_or_at counts own [] None k (omega (arith, g.whole, same)) in
                let here : get_or rules k d ≡ rule = rw same (get_or_default rules asked d rule l ∙ e) in
                subst (IsCountOf kind start (get_or rules k d)) (sym last) (subst (λ r. IsCountOf kind start r own) (sym here) known))
          ];
        }

    -- all rules
    pub counted_all : length rules ≤ asked → AreCounts kind start rules counts
    counted_all l = record { whole = omega (arith, l, g.within, g.whole); each = λ k d w. g.each k d (omega (arith, l, w)) }
