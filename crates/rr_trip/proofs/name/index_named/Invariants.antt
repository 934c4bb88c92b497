use Rattle.std.proofs.Common.{◌≡◌, drop, position}
use Rattle.std.specs.List.{position_from}
use Rattle.rr_groups.specs.declared.group.Group.{Group}
use Rattle.rr_trip.specs.Shown.{is_key_named}
use Rattle.rr_trip.proofs.name.index_named.Given as goal

-- it is not among the groups before this one
abbrev pub invariant-loop-index : goal.invariant-loop-index
invariant-loop-index l =
    let test = λ (group : Group). is_key_named l.name group.key in position_from test l.index (drop l.index l.groups) ≡ position test l.groups
