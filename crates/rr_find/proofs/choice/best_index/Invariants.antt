use Rattle.std.specs.Prelude.{◌≡◌, get_or}
use Rattle.rr_find.specs.ByCounts.{best_below, gain_of_item, number_at}
use Rattle.rr_find.proofs.choice.best_index.Given as goal

-- the best of the items so far, and what it adds
abbrev pub invariant-loop-index : goal.invariant-loop-index
invariant-loop-index l =
    let number = gain_of_item l.kind (λ sort. get_or l.left sort 0) (λ sort. get_or l.free sort 0) in
    (l.best ≡ best_below number l.index) × (l.most ≡ number_at number l.best)
