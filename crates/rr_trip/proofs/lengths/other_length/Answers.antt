use Rattle.std.proofs.Common.{rules}
use Rattle.std.proofs.lemmas.Result.{IfOk-weaker}
use Rattle.rr_days.specs.Sequence.{sketch}
use Rattle.rr_length.specs.Lengths.{occurs_in}
use Rattle.rr_trip.specs.Pairs.{lengths_beside}
use Rattle.rr_trip.specs.Said.{occurs_at}
use Rattle.rr_trip.proofs.LengthLemmas.{answered, same_occurrences}
use Rattle.rr_trip.proofs.lengths.other_length.Goals as goal

pub returns-in-Some-Some : goal.returns-in-Some-Some
returns-in-Some-Some c =
    let pair = c.args.pair.now in
    let s = sketch pair.a.days in
    IfOk-weaker c.first_other_length.result _ _
    (λ o h. answered (occurs_in s) (occurs_at pair.a.series) (same_occurrences pair.a.series s c.requires.of_a) _ _ pair.a.lengths (lengths_beside pair.b)
    (search rules) (search rules) o h)
    c.first_other_length.ensures
