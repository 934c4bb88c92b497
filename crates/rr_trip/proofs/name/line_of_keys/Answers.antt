use Rattle.std.proofs.Common.{◌∙◌, true, false, sym}
use Rattle.rr_groups.specs.declared.group.Group.{Group}
use Rattle.rr_seam.specs.Keys.{is_same_key}
use Rattle.rr_trip.proofs.ShownLemmas.{no_line, one_line, place_in_b, place_of_line}
use Rattle.rr_trip.proofs.name.line_of_keys.Goals as goal

pub returns-in_err-index_of-clause-line : goal.returns-in_err-index_of-clause-line
returns-in_err-index_of-clause-line c =
    c.from_residual-in_err-index_of.ensures
    ∙ no_line c.args.groups.now c.args.found.now c.args.keys.now c.in_ok-key.key.now c.in_ok-key.others.now c.in_ok-key.ensures.cases.0 c.index_of.result
    c.index_of.ensures c.in_err-index_of.was

pub line_of-index-requires : goal.line_of-index-requires
line_of-index-requires c =
    place_in_b (λ (group : Group). is_same_key group.key c.in_ok-key.key.now) c.args.groups.now c.args.found.now c.requires c.index_of.result
    c.index_of.ensures c.in_ok-index_of.field-0 c.in_ok-index_of.was

pub returns-then-is_line_of_all-clause-line : goal.returns-then-is_line_of_all-clause-line
returns-then-is_line_of_all-clause-line c =
    one_line c.args.groups.now c.args.found.now c.args.keys.now c.in_ok-key.key.now c.in_ok-key.others.now c.in_ok-key.ensures.cases.0 c.index_of.result
    c.index_of.ensures c.in_ok-index_of.field-0 c.in_ok-index_of.was c.line_of-index.result c.line_of-index.ensures true
    (sym c.if-is_line_of_all.true ∙ c.is_line_of_all.ensures)

pub returns-then-is_line_of_all-clause-within : goal.returns-then-is_line_of_all-clause-within
returns-then-is_line_of_all-clause-within c =
    place_of_line (λ (group : Group). is_same_key group.key c.in_ok-key.key.now) c.args.groups.now c.args.found.now c.requires c.index_of.result
    c.index_of.ensures c.in_ok-index_of.field-0 c.in_ok-index_of.was c.line_of-index.result c.line_of-index.ensures

pub returns-else-is_line_of_all-clause-line : goal.returns-else-is_line_of_all-clause-line
returns-else-is_line_of_all-clause-line c =
    one_line c.args.groups.now c.args.found.now c.args.keys.now c.in_ok-key.key.now c.in_ok-key.others.now c.in_ok-key.ensures.cases.0 c.index_of.result
    c.index_of.ensures c.in_ok-index_of.field-0 c.in_ok-index_of.was c.line_of-index.result c.line_of-index.ensures false
    (sym c.if-is_line_of_all.false ∙ c.is_line_of_all.ensures)
