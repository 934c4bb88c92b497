use Rattle.std.proofs.Common.{rules, FitsSigned, ◌≡◌, ◌-◌, pos, inl, inr, arith, get_or, length, w64, to_z-of_z}
use Rattle.std.specs.Prelude.{int_lt, true, false}
use Rattle.std.proofs.lemmas.Bool.{cases_lt}
use Rattle.std.proofs.lemmas.Int.{ints}
use Rattle.std.proofs.lemmas.List.Sorted.{IsPartitionPoint-from_clause}
use Rattle.rr_model.specs.declared.kind.Kind.TheVariants.{Days}
use Rattle.rr_model.proofs.RisingSetLemmas.{rising_dates}
use Rattle.rr_lazy.proofs.StretchLemmas.{parted}
use Rattle.rr_walk.proofs.position_days.count_before.Goals as goal
use Rattle.rr_walk.proofs.position_days.count_before.Goals.{then-count-eq0-via-then-count-eq0, then-count-eq0-via-else-count-eq0+then-from-days}

pub returns-then-count-eq0-clause-not_before : goal.returns-then-count-eq0-clause-not_before
returns-then-count-eq0-clause-not_before c k g l = elim c.then-count-eq0.branch [
  | then-count-eq0-via-then-count-eq0 w ↦ absurd (omega (arith, l, w.if-count-eq0.true))
  | then-count-eq0-via-else-count-eq0+then-from-days w ↦
      (let days = c.args.days.now in
      let fits : FitsSigned w64 (get_or days 0 (pos 0)) = search rules in
      elim (cases_lt 0 k) [
        | inl m ↦
            omega (arith, ints, w.if-from-days.true, to_z-of_z c.ranges.from, to_z-of_z fits, rising_dates days c.requires.rising 0 k m l)
        | inr m ↦ (let e : k ≡ 0 = omega arith in rw e (omega (arith, ints, w.if-from-days.true, to_z-of_z c.ranges.from, to_z-of_z fits)))
      ])
]

pub returns-then-days-count-clause-before : goal.returns-then-days-count-clause-before
returns-then-days-count-clause-before c k l =
    let days = c.args.days.now in
    let last = length days - 1 in
    let fits : FitsSigned w64 (get_or days last (pos 0)) = search rules in
    elim (cases_lt k last) [
      | inl m ↦
          omega (arith, ints, c.if-days-count.true, to_z-of_z c.ranges.from, to_z-of_z fits, rising_dates days c.requires.rising k last m (omega (arith, l)))
      | inr m ↦ (let e : k ≡ last = omega (arith, l, m) in rw e (omega (arith, ints, c.if-days-count.true, to_z-of_z c.ranges.from, to_z-of_z fits)))
    ]

pub returns-clause-before : goal.returns-clause-before
returns-clause-before c k l =
    let days = c.args.days.now in
    let from = c.args.from in
    let point = IsPartitionPoint-from_clause (λ d. int_lt d from) days c.partition_point.result c.partition_point.ensures.partitioned
    (parted Days days from c.requires.rising) (λ a r q j. search rules) in
    let e : int_lt (get_or days k (pos 0)) from ≡ true = point.0 k (pos 0) (omega (arith, l, c.partition_point.ensures.bound)) l in
    omega (arith, ints, e)

pub returns-clause-not_before : goal.returns-clause-not_before
returns-clause-not_before c k g l =
    let days = c.args.days.now in
    let from = c.args.from in
    let point = IsPartitionPoint-from_clause (λ d. int_lt d from) days c.partition_point.result c.partition_point.ensures.partitioned
    (parted Days days from c.requires.rising) (λ a r q j. search rules) in
    let e : int_lt (get_or days k (pos 0)) from ≡ false = point.1 k (pos 0) g l in
    omega (arith, ints, e)
