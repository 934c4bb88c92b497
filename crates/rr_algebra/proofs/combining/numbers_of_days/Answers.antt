use Rattle.std.proofs.Common.{◌≡◌, pos, ◌+ℤ◌, w64, to_z, of_z, length, length-append, [], ◌∷◌, ap, to_z-of_z, arith}
use Rattle.std.proofs.lemmas.Int.{ints}
use Rattle.rr_algebra.specs.Combining.{table}
use Rattle.rr_algebra.specs.declared.combining.CombinedDays.{CombinedDays}
use Rattle.rr_days.proofs.MadeSetLemmas.{none_known}
use Rattle.rr_algebra.proofs.CombineLemmas.{empty_day_sets, empty_made, empty_room, no_numbers, one_more_number}
use Rattle.rr_algebra.proofs.JudgedLemmas.{refused_all}
use Rattle.rr_algebra.proofs.combining.numbers_of_days.Goals as goal

pub loop-k-init : goal.loop-k-init
loop-k-init g c = (
  ap length c.new-numbers.ensures.items,
  empty_day_sets c.args.kind c.in_ok-sets.sets.shapes c.in_ok-sets.ensures.shapes,
  none_known c.args.op (table (g.A.DaySeq.sets c.args.one.now)) (table (g.B.DaySeq.sets c.args.other.now)) c.in_ok-sets.sets.shapes c.in_ok-sets.sets.known
      c.in_ok-sets.ensures.known,
  no_numbers c.args.op (g.A.DaySeq.sketch c.args.one.now) (g.B.DaySeq.sketch c.args.other.now) _ c.in_ok-sets.sets.shapes c.new-numbers.result.items
      c.new-numbers.ensures.items,
  empty_made c.args.op (g.A.DaySeq.sketch c.args.one.now) (g.B.DaySeq.sketch c.args.other.now) c.in_ok-sets.sets.shapes c.in_ok-sets.ensures.shapes,
  empty_room c.in_ok-sets.sets.shapes c.in_ok-sets.ensures.shapes,
)

pub number_of-requires-clause-first : goal.number_of-requires-clause-first
number_of-requires-clause-first g c = c.requires.first _

pub number_of-requires-clause-second : goal.number_of-requires-clause-second
number_of-requires-clause-second g c = c.requires.second _

pub loop-k-preserved : goal.loop-k-preserved
loop-k-preserved g c =
    let l = c.loop-k in
    let d = to_z-of_z c.ranges.begin in
    let low = c.requires.low in
    let high = c.requires.high in
    let begin = to_z w64 (of_z w64 c.args.begin) in
    let day : to_z w64 (of_z w64 (begin +ℤ to_z w64 l.k)) ≡ begin +ℤ pos l.k =
    omega (arith, ints, d, low, high, c.loop-k-test.true) in (
      omega (arith, l.invariant.0, ap length c.in_ok-push_number.ensures, length-append l.numbers.items (c.in-Ok.id.number ∷ [])),
      c.in-Ok.ensures.sets,
      c.in-Ok.ensures.known,
      one_more_number c.args.op (g.A.DaySeq.sketch c.args.one.now) (g.B.DaySeq.sketch c.args.other.now) begin _ l.sets.shapes
          c.number_of.new.sets.shapes l.numbers.items c.push_number.new.numbers.items c.in-Ok.id.number l.k l.invariant.0 c.in-Ok.ensures.grown
          c.in_ok-push_number.ensures day c.in-Ok.ensures.number l.invariant.3,
      c.in-Ok.ensures.made,
      c.in-Ok.ensures.room,
    )

pub returns-in-Err-clause-refused : goal.returns-in-Err-clause-refused
returns-in-Err-clause-refused g c =
    refused_all CombinedDays c.in-Err.fault c.args.op (g.A.DaySeq.sketch c.args.one.now) (g.B.DaySeq.sketch c.args.other.now) _ c.loop-k.sets.shapes
    c.in-Err.ensures.refused c.loop-k.invariant.4
