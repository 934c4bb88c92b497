use Rattle.std.proofs.Common.{refl, sym, ◌∙◌, arith}
use Rattle.rr_offsets.specs.Meanings.{meaning_in}
use Rattle.rr_true.specs.Changes.{offset_of}
use Rattle.rr_compare.proofs.NameLemmas.{means_first, means_other, next_meaning, no_meaning}
use Rattle.rr_compare.proofs.names.first_offsets.Goals as goal

pub returns-then-is_some : goal.returns-then-is_some
returns-then-is_some c =
    let means = meaning_in c.args.zones.now in
    let next = c.loop-name.invariant ∙ next_meaning means c.args.names.now c.loop-name.name-index _ c.loop-name-test.true in
    let found = rw c.as_bytes.ensures.value at c.in_ok-found.ensures in
    rw next (means_first offset_of _ _ c.in_ok-found.found (sym c.if-is_some.ensures) found)

pub loop-name-preserved : goal.loop-name-preserved
loop-name-preserved c =
    let means = meaning_in c.args.zones.now in
    let next = c.loop-name.invariant ∙ next_meaning means c.args.names.now c.loop-name.name-index _ c.loop-name-test.true in
    let found = rw c.as_bytes.ensures.value at c.in_ok-found.ensures in
    next ∙ means_other offset_of _ _ c.in_ok-found.found (sym c.if-is_some.ensures) found

pub returns : goal.returns
returns c =
    let none = c.loop-name.invariant ∙ no_meaning (meaning_in c.args.zones.now) c.args.names.now c.loop-name.name-index (omega arith) in
    rw none refl
