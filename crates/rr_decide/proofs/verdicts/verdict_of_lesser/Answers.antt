use Rattle.std.proofs.Common.{refl}
use Rattle.std.proofs.lemmas.Bool.{false≢true}
use Rattle.rr_model.specs.Moment.{day_part}
use Rattle.rr_decide.proofs.StandsLemmas.{no_on_first, no_on_lesser_first, no_on_lesser_second, no_on_second, nothing_stands, yes_apart}
use Rattle.rr_decide.proofs.verdicts.verdict_of_lesser.Goals as goal

pub returns-in-None-None-clause-verdict : goal.returns-in-None-None-clause-verdict
returns-in-None-None-clause-verdict c = λ shows s u apart first_a first_b.
    yes_apart shows s u apart (rw c.in-None-None.is-0 at first_a) (rw c.in-None-None.is-1 at first_b)

pub returns-in-None-Some-clause-verdict : goal.returns-in-None-Some-clause-verdict
returns-in-None-Some-clause-verdict c = λ shows s u apart first_a first_b.
    let other = c.in-None-Some.other in
    let of_a = rw c.in-None-Some.is-0 at first_a in
    let of_b = rw c.in-None-Some.is-1 at first_b in
    rw c.against.ensures (no_on_second shows s u apart other.kind other.at of_b.0 of_b.1 (λ t l v before h. nothing_stands s l v (of_a t (day_part l v)) h))

pub returns-in-Some-None-clause-verdict : goal.returns-in-Some-None-clause-verdict
returns-in-Some-None-clause-verdict c = λ shows s u apart first_a first_b.
    let one = c.in-Some-None.one in
    let of_a = rw c.in-Some-None.is-0 at first_a in
    let of_b = rw c.in-Some-None.is-1 at first_b in
    rw c.against-in-Some-None.ensures
    (no_on_first shows s u apart one.kind one.at of_a.0 of_a.1 (λ t l v before h. nothing_stands u l v (of_b t (day_part l v)) h))

pub returns-then-comes_before-clause-verdict : goal.returns-then-comes_before-clause-verdict
returns-then-comes_before-clause-verdict c = λ shows s u apart first_a first_b.
    let one = c.in-Some-Some.one in
    let other = c.in-Some-Some.other in
    let of_a = rw c.in-Some-Some.is-0 at first_a in
    let of_b = rw c.in-Some-Some.is-1 at first_b in
    rw c.against-then-comes_before.ensures
    (no_on_lesser_first shows s u apart one.kind one.at other.kind other.at of_a.0 of_a.1 of_b.1 (c.if-comes_before.ensures.0 refl))

pub returns-else-comes_before-clause-verdict : goal.returns-else-comes_before-clause-verdict
returns-else-comes_before-clause-verdict c = λ shows s u apart first_a first_b.
    let one = c.in-Some-Some.one in
    let other = c.in-Some-Some.other in
    let of_a = rw c.in-Some-Some.is-0 at first_a in
    let of_b = rw c.in-Some-Some.is-1 at first_b in
    rw c.against-else-comes_before.ensures
    (no_on_lesser_second shows s u apart one.kind one.at other.kind other.at of_b.0 of_a.1 of_b.1 (λ b. false≢true (c.if-comes_before.ensures.1 b)))
