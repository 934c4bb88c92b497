use Rattle.std.proofs.Common.{◌+◌, ◌-◌, ◌<◌, ◌∙◌, List, get_or, take, drop, length, pos, subst, sym}
use Rattle.std.proofs.lemmas.Bool.{false≢true}
use Rattle.rr_length.specs.declared.length.Length.{Length}
use Rattle.rr_length.specs.declared.lengths.Dated.{Dated}
use Rattle.rr_length.proofs.OrderLemmas.{AreMerged, merged_at, merged_next, merged_same}
use Rattle.rr_length.proofs.order.longest_of_each.Goals.{then-is_with, else-is_with+in_ok-push}
use Rattle.rr_length.proofs.order.longest_of_each.Goals as goal

-- what an index past the end would give
abbrev nowhere : Dated
nowhere = record { at = pos 0; length = record { days = 0; seconds = 0 } }

pub loop-one-preserved : goal.loop-one-preserved
loop-one-preserved c =
    let given = c.args.dated.now in
    let rest = take (length given - 1) (drop 1 given) in
    let i = c.loop-one.one-index in
    let one = get_or rest i nowhere in
    let behind = drop (i + 1) rest in
    let found = c.loop-one.found.items in
    let last = c.loop-one.last in
    let below : i < length rest = c.loop-one-test.true in
    let so_far = merged_at given found last rest i nowhere below c.loop-one.invariant in
    elim c.if-is_with.branch [
      | then-is_with w ↦
          rw (w.found-is, w.last-is) (
          let longer = w.longer_of-last.ensures in
          subst (λ (l : Length). AreMerged given found (record { at = last.at; length = l }) behind) (sym longer)
          (merged_same given found last one behind so_far (c.is_with.ensures.0 w.if-is_with.true))
          )
      | else-is_with+in_ok-push w ↦
          rw (w.found-is, w.last-is) (
          let put = w.in_ok-push.ensures.items in
          subst (λ (ds : List Dated). AreMerged given ds one behind) (sym put)
          (merged_next given found last one behind so_far (λ e. false≢true (sym w.if-is_with.false ∙ c.is_with.ensures.1 e)))
          )
    ]
