use Rattle.std.proofs.Common.{◌≡◌, ℕ, ◌+◌, ◌-◌, ◌++◌, drop, get_or, length, sym, ap, ◌∙◌, arith}
use Rattle.std.proofs.lemmas.List.{get_or-append-add, get_or-drop}
use Rattle.rr_days.proofs.folded.number_at_index.Goals as goal

pub returns : goal.returns
returns c =
    let before = c.args.before.now in
    let row = c.args.row.now in
    let skipped = c.args.skipped in
    let j : ℕ = c.args.index - length before in
    let at : c.args.index ≡ length before + j = omega (arith, c.len-days.ensures.value) in
    let from : (c.args.index - c.len-days.result) + skipped ≡ skipped + j = omega (arith, c.len-days.ensures.value) in
    c.number_at-2.ensures
    ∙ ap (λ n. get_or row n 0) from
    ∙ sym (get_or-drop skipped row j 0)
    ∙ sym (get_or-append-add before (drop skipped row) j 0)
    ∙ ap (λ n. get_or (before ++ drop skipped row) n 0) (sym at)
