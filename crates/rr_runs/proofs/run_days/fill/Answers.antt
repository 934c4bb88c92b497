use Rattle.std.proofs.Common.{◌≡◌, ◌≤◌, ◌∙◌, ap, arith, drop, length, length-append, ℕ, List, ◌++◌, ◌∷◌, []}
use Rattle.std.proofs.lemmas.List.{drop-append-le}
use Rattle.rr_runs.specs.Runs.{days_of}
use Rattle.rr_runs.proofs.RunLemmas.{none_put}
use Rattle.rr_runs.proofs.run_days.fill.Goals as goal

pub loop-k-preserved : goal.loop-k-preserved
loop-k-preserved c =
    let skipped = c.args.skipped in
    let row = c.loop-k.row in
    let long : skipped ≤ length row = omega (arith, c.requires.within, c.loop-k.invariant.1, c.loop-k.invariant.2) in
    let put : drop skipped c.push.new.self ≡ drop skipped row ++ 0 ∷ [] =
    ap (drop skipped) c.in_ok-push.ensures.ok ∙ drop-append-le skipped row (0 ∷ []) long in (
      (λ day. none_put day (drop skipped row) (drop skipped c.push.new.self) put ∙ c.loop-k.invariant.0 day),
      omega (arith, ap length c.in_ok-push.ensures.ok ∙ length-append row (0 ∷ []), c.loop-k.invariant.1),
      omega (arith, c.loop-k.invariant.2),
    )

pub returns-in_err-push-clause-same : goal.returns-in_err-push-clause-same
returns-in_err-push-clause-same c = λ day.
    ap (λ (l : List ℕ). days_of day (drop c.args.skipped l)) c.in_err-push.ensures.err ∙ c.loop-k.invariant.0 day

pub returns-clause-same : goal.returns-clause-same
returns-clause-same c = c.loop-k.invariant.0
