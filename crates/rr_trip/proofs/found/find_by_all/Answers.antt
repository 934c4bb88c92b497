use Rattle.std.proofs.lemmas.Result.{on_ok_weaker}
use Rattle.rr_trip.proofs.FoundLemmas.{found_by_all}
use Rattle.rr_trip.proofs.found.find_by_all.Goals as goal

pub returns-clause-found : goal.returns-clause-found
returns-clause-found c =
    on_ok_weaker c.find_by-4.result
    (λ last. found_by_all c.args.a.now c.args.b.now c.args.found.now c.find_by.new.found c.find_by-2.new.found c.find_by-3.new.found c.find_by-4.new.found
    c.in_ok-find_by.ensures.found c.in_ok-find_by-2.ensures.found c.in_ok-find_by-3.ensures.found last) c.find_by-4.ensures.found

pub returns-clause-sound : goal.returns-clause-sound
returns-clause-sound c = λ count sound.
    c.find_by-4.ensures.sound count
    (c.in_ok-find_by-3.ensures.sound count (c.in_ok-find_by-2.ensures.sound count (c.in_ok-find_by.ensures.sound count sound)))
