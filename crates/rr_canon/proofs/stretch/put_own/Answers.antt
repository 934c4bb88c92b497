use Rattle.std.proofs.Common.{◌≢◌, ◌∷◌, ◌++◌, [], w64, ap, ◌∙◌, rules}
use Rattle.std.proofs.lemmas.Int.{to_z-of_z}
use Rattle.std.proofs.lemmas.Option.{slice_get_within}
use Rattle.std.proofs.lemmas.Result.{on_ok_weaker}
use Rattle.rr_canon.specs.Kept.{AreKnown}
use Rattle.rr_canon.proofs.OwnNumberLemmas.{known_put, on_ok, put_known}
use Rattle.rr_canon.proofs.stretch.put_own.Goals as goal

pub returns-in-Some-clause-put : goal.returns-in-Some-clause-put
returns-in-Some-clause-put g c =
    let old = c.args.days.now in
    let number = c.in-Some.number in
    let back = to_z-of_z w64 c.args.day c.ranges.day in
    on_ok_weaker c.put_numbered.result
    (λ e. put_known (g.A.DaySeq.sets c.args.seq.now) c.args.sets.now c.args.known.now.known.items c.args.own number c.args.day _ old
    c.put_numbered.new.days c.requires.known c.in-Some.ensures c.requires.own
    (e ∙ ap (λ d. old ++ record { day = d; number = number } ∷ []) back)) c.put_numbered.ensures

pub times-times-requires : goal.times-times-requires
times-times-requires g c = slice_get_within _ _ _ c.requires.own

pub returns-clause-known : goal.returns-clause-known
returns-clause-known g c =
    let own = g.A.DaySeq.sets c.args.seq.now in
    let times = c.times-times.result.now in
    let some : times ≢ [] = search rules in
    on_ok c.put_numbered-2.result (AreKnown own c.add_set.new.sets c.put.new.self.known.items)
    (known_put own c.args.sets.now c.add_set.new.sets c.args.known.now.known.items c.put.new.self.known.items c.args.own c.in_ok-number.number times
    c.times-times.ensures some c.in_ok-number.ensures.placed c.in_ok-put.ensures.put c.requires.known)
