use Rattle.std.proofs.Common.{◌≡◌, ◌∙◌, sym, ℕ, false, [], ◌∷◌, get_or}
use Rattle.rr_model.specs.Rule.Validity.{is_absent}
use Rattle.rr_expand.specs.LeftOut.{IsGap}
use Rattle.rr_expand.proofs.LeftOutLemmas.{gap_is, seven}
use Rattle.rr_expand.proofs.left_out.gaps.Goals as goal

pub returns : goal.returns
returns c =
    let rule = c.args.rule.now in
    let e = c.as_slice-items.ensures.value in
    let present : is_absent rule.by_day ≡ false = sym c.is_empty.ensures ∙ c.if-is_empty.false in
    seven (λ w. IsGap rule w
    (get_or (c.gap.result ∷ c.gap-2.result ∷ c.gap-3.result ∷ c.gap-4.result ∷ c.gap-5.result ∷ c.gap-6.result ∷ c.gap-7.result ∷ []) w 0))
    (gap_is rule 0 c.gap.result present (rw e at c.gap.ensures)) (gap_is rule 1 c.gap-2.result present (rw e at c.gap-2.ensures))
    (gap_is rule 2 c.gap-3.result present (rw e at c.gap-3.ensures)) (gap_is rule 3 c.gap-4.result present (rw e at c.gap-4.ensures))
    (gap_is rule 4 c.gap-5.result present (rw e at c.gap-5.ensures)) (gap_is rule 5 c.gap-6.result present (rw e at c.gap-6.ensures))
    (gap_is rule 6 c.gap-7.result present (rw e at c.gap-7.ensures))
