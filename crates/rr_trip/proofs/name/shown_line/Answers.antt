use Rattle.std.proofs.Common.{◌++◌}
use Rattle.rr_groups.specs.declared.group.Group.{Group}
use Rattle.rr_trip.specs.Shown.{is_key_named, keys_titled}
use Rattle.rr_trip.proofs.ShownLemmas.{line_of_name, line_of_title, place_in_b, place_of_line}
use Rattle.rr_trip.proofs.name.shown_line.Goals as goal

pub line_of-requires : goal.line_of-requires
line_of-requires g c =
    place_in_b (λ (group : Group). is_key_named c.args.name.now group.key) c.args.groups.now c.args.found.now c.requires c.in_ok-index.field-0
    c.in_ok-index.ensures c.in-Some.index c.in-Some.is

pub returns-in-Some-clause-line : goal.returns-in-Some-clause-line
returns-in-Some-clause-line g c =
    let name = c.args.name.now in
    let titled = keys_titled name (g.A.EventFile.titles c.args.a.now) 0 (g.A.EventFile.keys c.args.a.now)
    ++ keys_titled name (g.B.EventFile.titles c.args.b.now) 0 (g.B.EventFile.keys c.args.b.now) in
    line_of_name c.args.groups.now c.args.found.now name titled c.in_ok-index.field-0 c.in_ok-index.ensures c.in-Some.index c.in-Some.is c.line_of.result
    c.line_of.ensures

pub returns-in-Some-clause-within : goal.returns-in-Some-clause-within
returns-in-Some-clause-within g c =
    place_of_line (λ (group : Group). is_key_named c.args.name.now group.key) c.args.groups.now c.args.found.now c.requires c.in_ok-index.field-0
    c.in_ok-index.ensures c.in-Some.index c.in-Some.is c.line_of.result c.line_of.ensures

pub returns-clause-line : goal.returns-clause-line
returns-clause-line g c =
    let name = c.args.name.now in
    let titled = keys_titled name (g.A.EventFile.titles c.args.a.now) 0 (g.A.EventFile.keys c.args.a.now)
    ++ keys_titled name (g.B.EventFile.titles c.args.b.now) 0 (g.B.EventFile.keys c.args.b.now) in
    line_of_title c.args.groups.now c.args.found.now name titled c.in_ok-index.field-0 c.in_ok-index.ensures c.in_default.is c.in_ok-keys.keys.items
    c.deref.result.now c.in_ok-keys.ensures c.deref.ensures.value c.line_of_keys.result c.line_of_keys.ensures.line

pub returns-clause-within : goal.returns-clause-within
returns-clause-within g c = c.line_of_keys.ensures.within
