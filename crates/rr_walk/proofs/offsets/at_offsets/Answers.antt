use Rattle.std.proofs.Common.{◌≡◌, ◌∙◌, ◌%◌, sym, ap, ℕ, get_or, length, refl, arith}
use Rattle.rr_expand.proofs.SetLemmas.{ok_set}
use Rattle.rr_walk.specs.SetPositions.{IsAtOffset}
use Rattle.rr_walk.proofs.OffsetLemmas.{kept_none, kept_more, kept_same, kept_all, kept_of_day, searched_in}
use Rattle.rr_walk.proofs.offsets.at_offsets.Goals as goal
use Rattle.rr_walk.proofs.offsets.at_offsets.Goals.{then-is_ok+in_ok-push, else-is_ok}

pub loop-second-init : goal.loop-second-init
loop-second-init c = kept_none c.as_slice-second-items.result.now c.as_slice-listed.result.now c.args.unit c.new-chosen.result.items c.new-chosen.ensures.items

pub loop-second-preserved : goal.loop-second-preserved
loop-second-preserved c =
    let seconds = c.as_slice-second-items.result.now in
    let listed = c.as_slice-listed.result.now in
    let i = c.loop-second.second-index in
    let x : ℕ = get_or seconds i 0 in
    let rises = (rw (sym c.as_slice-second-items.ensures.same) at c.as_slice-second-items.ensures.of_day).rises in
    let sorted = (rw (sym c.as_slice-listed.ensures.same) at c.as_slice-listed.ensures.of_day).rises in
    let found = searched_in listed (x % c.args.unit) c.binary_search.result c.is_ok.result sorted c.binary_search.ensures.position c.is_ok.ensures.value in
    let old = c.loop-second.chosen.items in
    elim c.if-is_ok.branch [
      | then-is_ok+in_ok-push w ↦
          (let made = ap (λ v. v.items) w.chosen-is ∙ w.in_ok-push.ensures.items in
          kept_more seconds listed c.args.unit old c.if-is_ok.chosen.items i x rises c.loop-second-test.true refl
          (found.0 w.if-is_ok.true) made c.loop-second.invariant)
      | else-is_ok w ↦ rw w.chosen-is (kept_same seconds listed c.args.unit old i x refl (found.1 w.if-is_ok.false) c.loop-second.invariant)
    ]

pub of-requires : goal.of-requires
of-requires c =
    let seconds = c.as_slice-second-items.result.now in
    let listed = c.as_slice-listed.result.now in
    let last : c.loop-second.second-index ≡ length seconds = omega (arith, c.loop-second.auto.second-index-end, c.loop-second-test.false) in
    kept_of_day seconds listed c.loop-second.chosen.items c.as_slice.result.now c.args.unit
    (rw (sym c.as_slice-second-items.ensures.same) at c.as_slice-second-items.ensures.of_day) c.as_slice.ensures.value
    (kept_all seconds listed c.args.unit c.loop-second.chosen.items c.loop-second.second-index last c.loop-second.invariant)

pub returns : goal.returns
returns c =
    let seconds = c.as_slice-second-items.result.now in
    let listed = c.as_slice-listed.result.now in
    let last : c.loop-second.second-index ≡ length seconds = omega (arith, c.loop-second.auto.second-index-end, c.loop-second-test.false) in
    let set = kept_all seconds listed c.args.unit c.loop-second.chosen.items c.loop-second.second-index last c.loop-second.invariant in
    ok_set (IsAtOffset c.args.unit c.args.offsets.now c.args.seconds.now) c.as_slice.result.now c.of.result
    (rw (c.as_slice.ensures.value, sym c.as_slice-listed.ensures.same, sym c.as_slice-second-items.ensures.same) set) c.of.ensures
