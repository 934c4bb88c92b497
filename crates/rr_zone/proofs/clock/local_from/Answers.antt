use Rattle.std.proofs.Common.{rules, FitsSigned, w32, w64, to_z-of_z}
use Rattle.rr_zone.proofs.WalkLemmas.{again, once, skipping}
use Rattle.rr_zone.proofs.clock.local_from.Goals as goal

pub returns-then-local-single : goal.returns-then-local-single
returns-then-local-single c =
    let at : FitsSigned w64 c.args.onset.at = search rules in
    let from : FitsSigned w32 c.args.onset.from = search rules in
    let to : FitsSigned w32 c.args.onset.to = search rules in
    let local : FitsSigned w64 c.moved-local.result = record { sfits = c.moved-local.type_inv } in
    let single : FitsSigned w64 c.moved-single.result = record { sfits = c.moved-single.type_inv } in
    rw (to_z-of_z single)
    (again c.args.onset c.args.at c.moved-local.result c.moved-single.result (rw (to_z-of_z c.ranges.at, to_z-of_z to) at c.moved-local.ensures)
    (rw (to_z-of_z at, to_z-of_z from) at c.moved-single.ensures) (rw (to_z-of_z local, to_z-of_z single) at c.if-local-single.true))

pub returns-then-unset-set : goal.returns-then-unset-set
returns-then-unset-set c =
    let at : FitsSigned w64 c.args.onset.at = search rules in
    let from : FitsSigned w32 c.args.onset.from = search rules in
    let to : FitsSigned w32 c.args.onset.to = search rules in
    let local : FitsSigned w64 c.moved-local.result = record { sfits = c.moved-local.type_inv } in
    let single : FitsSigned w64 c.moved-single.result = record { sfits = c.moved-single.type_inv } in
    let unset : FitsSigned w64 c.moved-unset.result = record { sfits = c.moved-unset.type_inv } in
    let set : FitsSigned w64 c.moved-set.result = record { sfits = c.moved-set.type_inv } in
    rw (to_z-of_z local)
    (skipping c.args.onset c.args.at c.moved-local.result c.moved-single.result (rw (to_z-of_z c.ranges.at, to_z-of_z to) at c.moved-local.ensures)
    (rw (to_z-of_z at, to_z-of_z from) at c.moved-single.ensures) c.moved-unset.result c.moved-set.result
    (rw (to_z-of_z c.ranges.at, to_z-of_z from) at c.moved-unset.ensures) (rw (to_z-of_z at, to_z-of_z to) at c.moved-set.ensures)
    (rw (to_z-of_z local, to_z-of_z single) at c.if-local-single.false) (rw (to_z-of_z unset, to_z-of_z set) at c.if-unset-set.true))

pub returns-else-unset-set : goal.returns-else-unset-set
returns-else-unset-set c =
    let at : FitsSigned w64 c.args.onset.at = search rules in
    let from : FitsSigned w32 c.args.onset.from = search rules in
    let to : FitsSigned w32 c.args.onset.to = search rules in
    let local : FitsSigned w64 c.moved-local.result = record { sfits = c.moved-local.type_inv } in
    let single : FitsSigned w64 c.moved-single.result = record { sfits = c.moved-single.type_inv } in
    let unset : FitsSigned w64 c.moved-unset.result = record { sfits = c.moved-unset.type_inv } in
    let set : FitsSigned w64 c.moved-set.result = record { sfits = c.moved-set.type_inv } in
    rw (to_z-of_z local)
    (once c.args.onset c.args.at c.moved-local.result c.moved-single.result (rw (to_z-of_z c.ranges.at, to_z-of_z to) at c.moved-local.ensures)
    (rw (to_z-of_z at, to_z-of_z from) at c.moved-single.ensures) c.moved-unset.result c.moved-set.result
    (rw (to_z-of_z c.ranges.at, to_z-of_z from) at c.moved-unset.ensures) (rw (to_z-of_z at, to_z-of_z to) at c.moved-set.ensures)
    (rw (to_z-of_z local, to_z-of_z single) at c.if-local-single.false) (rw (to_z-of_z unset, to_z-of_z set) at c.if-unset-set.false))
