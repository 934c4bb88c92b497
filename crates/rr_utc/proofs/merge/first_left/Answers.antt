use Rattle.std.proofs.Common.{Some, w64, pos, get_or, FitsSigned, sym, subst, rules}
use Rattle.std.proofs.lemmas.Int.{to_z-of_z}
use Rattle.rr_model.specs.declared.verdict.Side.TheVariants.{A, B}
use Rattle.rr_utc.specs.Between.{IsFirstOnly}
use Rattle.rr_utc.proofs.MergeLemmas.{left_at_a, left_at_b}
use Rattle.rr_utc.proofs.merge.first_left.Goals as goal

pub returns-in-empty-len1-up : goal.returns-in-empty-len1-up
returns-in-empty-len1-up c =
    let fits : FitsSigned w64 (get_or c.args.ys.now 0 (pos 0)) = search rules in
    subst (λ z. IsFirstOnly c.args.xs.now c.args.ys.now (Some (record { at = z; side = B }))) (sym (to_z-of_z w64 (get_or c.args.ys.now 0 (pos 0)) fits))
    (left_at_b c.args.xs.now c.args.ys.now c.requires.ys (search rules) c.requires.one)

pub returns-in-len1-up-default : goal.returns-in-len1-up-default
returns-in-len1-up-default c =
    let fits : FitsSigned w64 (get_or c.args.xs.now 0 (pos 0)) = search rules in
    subst (λ z. IsFirstOnly c.args.xs.now c.args.ys.now (Some (record { at = z; side = A }))) (sym (to_z-of_z w64 (get_or c.args.xs.now 0 (pos 0)) fits))
    (left_at_a c.args.xs.now c.args.ys.now c.requires.xs c.in-len1-up-default.len_at_least c.requires.one)
