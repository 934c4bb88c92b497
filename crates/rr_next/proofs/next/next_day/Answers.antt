use Rattle.std.proofs.Common.{FitsSigned, w64, to_z-of_z}
use Rattle.rr_next.specs.Next.{IsSearchEnd}
use Rattle.rr_next.proofs.DayLemmas.{found_soon, none_for_ever}
use Rattle.rr_next.proofs.next.next_day.Goals as goal

pub returns-clause-none : goal.returns-clause-none
returns-clause-none g c =
    let s = g.A.DaySeq.sketch c.args.seq.now in
    let from = to_z-of_z c.ranges.from in
    let settled_fits : FitsSigned w64 c.settled.result = record { sfits = c.settled.type_inv } in
    let end_fits : FitsSigned w64 c.search_end.result = record { sfits = c.search_end.type_inv } in
    let search : IsSearchEnd c.args.from s.settled s.period c.args.stop c.search_end.result =
    rw (from, to_z-of_z settled_fits, c.settled.ensures.value, c.period.ensures.value) at c.search_end.ensures.end in
    none_for_ever s c.args.from c.search_end.result c.args.stop c.occupied_before.result (g.met.A.DaySeq.bounded c.args.seq.now).valid search
    (rw (from, to_z-of_z end_fits) at c.occupied_before.ensures.none)

pub returns-clause-soon : goal.returns-clause-soon
returns-clause-soon g c =
    let s = g.A.DaySeq.sketch c.args.seq.now in
    let from = to_z-of_z c.ranges.from in
    let settled_fits : FitsSigned w64 c.settled.result = record { sfits = c.settled.type_inv } in
    let end_fits : FitsSigned w64 c.search_end.result = record { sfits = c.search_end.type_inv } in
    let search : IsSearchEnd c.args.from s.settled s.period c.args.stop c.search_end.result =
    rw (from, to_z-of_z settled_fits, c.settled.ensures.value, c.period.ensures.value) at c.search_end.ensures.end in
    found_soon s c.args.from c.search_end.result c.args.stop c.occupied_before.result search (rw (to_z-of_z end_fits) at c.occupied_before.ensures.early)
