use Rattle.std.proofs.Common.{◌∙◌, position, sym}
use Rattle.std.proofs.lemmas.Iterator.Adapters.{position_from-zero}
use Rattle.rr_groups.specs.declared.group.Group.{Group}
use Rattle.rr_trip.specs.Shown.{is_key_named}
use Rattle.rr_trip.proofs.ShownLemmas.{position_here, position_later, position_nowhere}
use Rattle.rr_trip.proofs.name.index_named.Goals as goal

pub loop-index-init : goal.loop-index-init
loop-index-init c = sym (position_from-zero (λ (group : Group). is_key_named c.args.name.now group.key) c.args.groups.now)

pub loop-index-preserved : goal.loop-index-preserved
loop-index-preserved c =
    let test = λ (group : Group). is_key_named c.args.name.now group.key in
    position_later test c.args.groups.now c.loop-index.index (position test c.args.groups.now) c.loop-index.invariant c.index-groups-index.result
    c.loop-index-test.true (sym c.in_ok-is_named.ensures ∙ c.if-branch.false)

pub returns-then-branch : goal.returns-then-branch
returns-then-branch c =
    let test = λ (group : Group). is_key_named c.args.name.now group.key in
    position_here test c.args.groups.now c.loop-index.index (position test c.args.groups.now) c.loop-index.invariant c.index-groups-index.result
    c.loop-index-test.true (sym c.in_ok-is_named.ensures ∙ c.if-branch.true)

pub returns : goal.returns
returns c =
    let test = λ (group : Group). is_key_named c.args.name.now group.key in
    position_nowhere test c.args.groups.now c.loop-index.index (position test c.args.groups.now) c.loop-index.invariant c.loop-index-test.false
