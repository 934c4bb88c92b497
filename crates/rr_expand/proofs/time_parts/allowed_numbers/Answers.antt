use Rattle.std.proofs.Common.{◌≡◌, ◌∙◌, sym, ap, subst, arith, ℕ, Bool, pos, ◌∷◌, [], ◌++◌}
use Rattle.std.specs.Prelude.{nat_lt}
use Rattle.rr_model.specs.Rule.Candidate.{allows}
use Rattle.rr_model.specs.Rule.Filled.{filled_part}
use Rattle.rr_model.specs.Rising.Sets.{IsSetOf}
use Rattle.rr_expand.proofs.SetLemmas.{Passed, passed_more, passed_same}
use Rattle.rr_expand.proofs.time_parts.allowed_numbers.Goals as goal
use Rattle.rr_expand.proofs.time_parts.allowed_numbers.Goals.{then-allows_filled+in_ok-push, else-allows_filled}

pub loop-n-preserved : goal.loop-n-preserved
loop-n-preserved c =
    let test : ℕ → Bool = λ m. allows (filled_part c.args.is_wanted c.args.part.now (pos c.args.own)) (pos m) in
    let old = c.loop-n.numbers.items in
    elim c.if-allows_filled.branch [
      | then-allows_filled+in_ok-push w ↦
          (let made = ap (λ v. v.items) w.numbers-is ∙ w.in_ok-push.ensures.items ∙ ap (λ n. old ++ n ∷ []) w.from.ensures in
          passed_more test old c.if-allows_filled.numbers.items c.loop-n.n c.loop-n.invariant (sym c.allows_filled.ensures ∙ w.if-allows_filled.true) made)
      | else-allows_filled w ↦
          rw w.numbers-is (passed_same test old c.loop-n.n c.loop-n.invariant (sym c.allows_filled.ensures ∙ w.if-allows_filled.false))
    ]

pub returns : goal.returns
returns c =
    let test : ℕ → Bool = λ m. allows (filled_part c.args.is_wanted c.args.part.now (pos c.args.own)) (pos m) in
    let last : c.loop-n.n ≡ c.args.count = omega (arith, c.loop-n.auto.n-end, c.loop-n-test.false) in
    subst (λ n. IsSetOf nat_lt c.loop-n.numbers.items (Passed test n)) last c.loop-n.invariant
