use Rattle.std.proofs.Common.{◌≡◌, FitsSigned, w32, w64, to_z, of_z, ap, sym, ◌∙◌, arith}
use Rattle.std.proofs.lemmas.Int.{clamps, ints, to_z-of_z}
use Rattle.rr_true.specs.Changes.{offset_of}
use Rattle.rr_true.proofs.NearLemmas.{closer}
use Rattle.rr_utc.proofs.BeginLemmas.{one_longer}
use Rattle.rr_utc.proofs.begin.first_parted.Goals as goal

pub loop-at-preserved : goal.loop-at-preserved
loop-at-preserved c =
    let of_a : FitsSigned w32 c.at.result = record { sfits = c.at.type_inv } in
    let of_b : FitsSigned w32 c.at-in-loop-at.result = record { sfits = c.at-in-loop-at.type_inv } in
    let first : FitsSigned w64 c.constant_until.result = record { sfits = c.constant_until.type_inv } in
    let second : FitsSigned w64 c.constant_until-in-loop-at.result = record { sfits = c.constant_until-in-loop-at.type_inv } in
    let fits : FitsSigned w64 c.min-at.result = record { sfits = c.min-at.type_inv } in
    let is = rw (to_z-of_z w64 c.constant_until.result first, to_z-of_z w64 c.constant_until-in-loop-at.result second) at c.min-at.ensures.value in
    let same : c.at.result ≡ c.at-in-loop-at.result = sym (to_z-of_z w32 c.at.result of_a) ∙ ap (to_z w32) c.if-at.false ∙ to_z-of_z w32 c.at-in-loop-at.result of_b in
    one_longer (offset_of c.args.a.now) (offset_of c.args.b.now) (to_z w64 (of_z w64 c.args.from)) (to_z w64 c.loop-at.at-bits) c.constant_until.result
    c.constant_until-in-loop-at.result (to_z w64 (of_z w64 c.min-at.result)) c.loop-at.invariant (sym c.at.ensures.value ∙ same ∙ c.at-in-loop-at.ensures.value)
    c.constant_until.ensures.later c.constant_until-in-loop-at.ensures.later c.constant_until.ensures.same c.constant_until-in-loop-at.ensures.same
    (to_z-of_z w64 c.min-at.result fits ∙ is)

pub loop-at-smaller : goal.loop-at-smaller
loop-at-smaller c =
    let first : FitsSigned w64 c.constant_until.result = record { sfits = c.constant_until.type_inv } in
    let second : FitsSigned w64 c.constant_until-in-loop-at.result = record { sfits = c.constant_until-in-loop-at.type_inv } in
    let fits : FitsSigned w64 c.min-at.result = record { sfits = c.min-at.type_inv } in
    let is = rw (to_z-of_z w64 c.constant_until.result first, to_z-of_z w64 c.constant_until-in-loop-at.result second) at c.min-at.ensures.value in
    let same = to_z-of_z w64 c.min-at.result fits in
    let l = c.constant_until.ensures.later in
    let m = c.constant_until-in-loop-at.ensures.later in
    closer (to_z w64 c.loop-at.at-bits) (to_z w64 (of_z w64 c.min-at.result)) (to_z w64 (of_z w64 c.args.end)) (omega (arith, ints, clamps, same, is, l, m))
    (omega (arith, ints, c.loop-at-test.true))
