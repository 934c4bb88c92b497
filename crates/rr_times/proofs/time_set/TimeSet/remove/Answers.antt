use Rattle.std.proofs.Common.{rules, ◌≡◌, ◌<◌, length, get_or, sym, ◌∙◌}
use Rattle.std.proofs.lemmas.List.{get_or_default}
use Rattle.rr_times.specs.Split.{SplitsAt}
use Rattle.rr_times.proofs.RemoveLemmas.{without_one, without_none, fewer_seconds}
use Rattle.rr_times.proofs.time_set.TimeSet.remove.Goals as goal
use Rattle.rr_times.proofs.time_set.TimeSet.remove.Goals.{else-index-len-via-then-index-len+else-index-second, else-index-len-via-else-index-len}

pub invariant_of-self : goal.invariant_of-self
invariant_of-self c =
    let l : c.count_below-index.result < length c.self.inside.seconds.items = search rules in
    rw c.remove.ensures.items (fewer_seconds c.self.inside.seconds.items c.count_below-index.result c.self.invariant l)

pub returns-then-index-second : goal.returns-then-index-second
returns-then-index-second c =
    let xs = c.self.inside.seconds.items in
    let l : c.count_below-index.result < length xs = search rules in
    let i : c.index.result.now ≡ c.args.second = search rules in
    let e : get_or xs c.count_below-index.result 0 ≡ c.args.second =
    get_or_default xs c.count_below-index.result 0 c.index.result.now l ∙ sym c.index.ensures ∙ i in
    rw c.remove.ensures.items (rw (← c.self.view_is) (without_one xs c.self.invariant.rises c.count_below-index.result l c.args.second e))

pub returns-else-index-len : goal.returns-else-index-len
returns-else-index-len c =
    let xs = c.self.inside.seconds.items in
    let split : SplitsAt xs c.count_below-index.result c.args.second = rw c.as_slice.ensures.value at c.count_below-index.ensures in
    rw (← c.self.view_is) (without_none xs c.count_below-index.result c.args.second c.self.invariant.rises split (λ l.
    elim c.else-index-len.branch [
      | else-index-len-via-then-index-len+else-index-second w ↦
          (λ e. (let i : w.index.result.now ≡ c.args.second = w.index.ensures ∙ get_or_default xs c.count_below-index.result w.index.result.now 0 l ∙ e in
          search rules))
      | else-index-len-via-else-index-len w ↦ absurd (search rules)
    ]))
