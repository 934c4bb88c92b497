use Rattle.std.proofs.Common.{rules, ◌≡◌, ◌≢◌, [], sym, ◌∙◌, ap, subst, w64, to_z, of_z, to_z-of_z, FitsSigned}
use Rattle.rr_lazy.specs.Ahead.{IsGivenOn}
use Rattle.rr_lazy.specs.Except.{up_to_more}
use Rattle.rr_lazy.specs.Next.{with_set}
use Rattle.rr_lazy.proofs.AheadLemmas.{given_on, this_day}
use Rattle.rr_lazy.proofs.ExceptLemmas.{all_lacking, given_on_more, left_whole, other_day, out_on_day}
use Rattle.rr_lazy.proofs.except.left_of.Goals as goal

pub seconds_lacking-requires-clause-a : goal.seconds_lacking-requires-clause-a
seconds_lacking-requires-clause-a g c = (given_on_more c.args.sets.now c.pass_to.new.sets c.args.found c.pass_to.ensures.kept c.requires.given).0

pub seconds_lacking-requires-clause-b : goal.seconds_lacking-requires-clause-b
seconds_lacking-requires-clause-b g c =
    let fits : FitsSigned w64 c.args.found.day = search rules in
    let day = rw (to_z-of_z fits) at c.of_day.ensures in
    let is = this_day c.pass_to.new.ahead c.of_day.result c.args.found.day c.in-Some.out c.in-Some.is day in
    let k = rw (to_z-of_z fits) at c.pass_to.ensures.known in
    given_on c.pass_to.new.sets (g.B.Lazy.tree c.args.lazy.now) (g.B.Lazy.position c.pass_to.new.lazy) k.from c.pass_to.new.ahead k.known c.in-Some.out is.0

pub returns-in-Some-clause-known : goal.returns-in-Some-clause-known
returns-in-Some-clause-known g c =
    let fits : FitsSigned w64 c.args.found.day = search rules in
    let k = rw (to_z-of_z fits) at c.pass_to.ensures.known in
    up_to_more c.pass_to.new.sets c.seconds_lacking.new.sets _ c.args.found.day c.seconds_lacking.ensures.kept k

pub returns-in-Some-clause-left : goal.returns-in-Some-clause-left
returns-in-Some-clause-left g c =
    let fits : FitsSigned w64 c.args.found.day = search rules in
    let f = to_z-of_z fits in
    let day = rw f at c.of_day.ensures in
    let is = this_day c.pass_to.new.ahead c.of_day.result c.args.found.day c.in-Some.out c.in-Some.is day in
    let k = rw f at c.pass_to.ensures.known in
    let some = rw f at c.in_ok-pass_to.ensures.some in
    let none = rw f at c.in_ok-pass_to.ensures.none in
    all_lacking c.args.sets.now c.pass_to.new.sets c.seconds_lacking.new.sets (g.B.Lazy.tree c.args.lazy.now) c.args.found c.in-Some.out c.pass_to.new.ahead
    c.seconds_lacking.result (given_on_more c.args.sets.now c.pass_to.new.sets c.args.found c.pass_to.ensures.kept c.requires.given).1 is.0 is.1
    (out_on_day c.pass_to.new.sets (g.B.Lazy.tree c.args.lazy.now) (g.B.Lazy.position c.pass_to.new.lazy) c.args.found.day c.pass_to.new.ahead k some none)
    c.seconds_lacking.ensures.left

pub returns-in-None-clause-left : goal.returns-in-None-clause-left
returns-in-None-clause-left g c =
    let fits : FitsSigned w64 c.args.found.day = search rules in
    let f = to_z-of_z fits in
    let day = rw f at c.of_day.ensures in
    let k = rw f at c.pass_to.ensures.known in
    let some = rw f at c.in_ok-pass_to.ensures.some in
    let none = rw f at c.in_ok-pass_to.ensures.none in
    let m = given_on_more c.args.sets.now c.pass_to.new.sets c.args.found c.pass_to.ensures.kept c.requires.given in
    left_whole c.args.sets.now c.pass_to.new.sets (g.B.Lazy.tree c.args.lazy.now) c.args.found c.pass_to.new.ahead m.0
    (λ e. c.requires.some (ap (λ x. x.times) (sym m.1) ∙ e)) m.1
    (out_on_day c.pass_to.new.sets (g.B.Lazy.tree c.args.lazy.now) (g.B.Lazy.position c.pass_to.new.lazy) c.args.found.day c.pass_to.new.ahead k some none)
    (other_day c.pass_to.new.ahead c.of_day.result c.args.found.day c.in-None.is day)
