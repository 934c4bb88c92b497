use Rattle.std.proofs.Common.{w64, to_z, of_z, refl, arith}
use Rattle.std.proofs.lemmas.Int.{ints, to_z-of_z}
use Rattle.rr_decide.specs.Question.{shown_by}
use Rattle.rr_decide.proofs.WindowLemmas.{first_one, none_joined, none_to_end}
use Rattle.rr_decide.proofs.days.first_day_shown.Goals as goal

pub loop-k-init : goal.loop-k-init
loop-k-init g c = (omega arith, (λ d low high. absurd (omega (arith, ints))), λ a b h. absurd (c.new-quiet.ensures a b h))

pub returns-in-Shows-clause-some : goal.returns-in-Shows-clause-some
returns-in-Shows-clause-some g c =
    first_one (shown_by c.args.question) (g.A.DaySeq.sketch c.args.a.now) (g.B.DaySeq.sketch c.args.b.now) c.args.from
    (to_z w64 (of_z w64 c.args.from)) _ c.in-Shows.shown.day c.loop-k.k c.in-Shows.shown.second c.in-Shows.shown.side
    (to_z-of_z w64 c.args.from c.ranges.from) (omega (arith, ints)) c.in-Shows.ensures.look.0 c.loop-k.invariant.1 c.in-Shows.ensures.look.1

pub loop-k-preserved : goal.loop-k-preserved
loop-k-preserved g c = (
  omega (arith, c.in-Quiet.ensures.look.1),
  none_joined (shown_by c.args.question) (g.A.DaySeq.sketch c.args.a.now) (g.B.DaySeq.sketch c.args.b.now) (to_z w64 (of_z w64 c.args.from)) _ c.loop-k.k
      c.in-Quiet.count _ (omega (arith, ints)) refl c.loop-k.invariant.1 c.in-Quiet.ensures.look.2,
  c.in-Quiet.ensures.quiet,
)

pub returns-clause-none : goal.returns-clause-none
returns-clause-none g c =
    none_to_end (shown_by c.args.question) (g.A.DaySeq.sketch c.args.a.now) (g.B.DaySeq.sketch c.args.b.now) c.args.from
    (to_z w64 (of_z w64 c.args.from)) c.loop-k.k c.args.days (to_z-of_z w64 c.args.from c.ranges.from) (omega arith) c.loop-k.invariant.1
