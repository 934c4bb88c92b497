use Rattle.std.proofs.Common.{◌≡◌, List, rules, subst}
use Rattle.std.proofs.lemmas.Fn.{always_returns_same}
use Rattle.rr_length.specs.Walk.{HaveOneLongest, at_of}
use Rattle.rr_length.specs.declared.lengths.Dated.{Dated}
use Rattle.rr_length.proofs.OrderLemmas.{sorted_ordered, stable_same}
use Rattle.rr_length.proofs.order.in_order.Goals as goal

pub returns-clause-ordered : goal.returns-clause-ordered
returns-clause-ordered c =
    sorted_ordered c.sort_by_key.new.self.items (c.in_ok-sort_by_key.ensures.sorted at_of (always_returns_same _ _ _ (λ a r f' k. search rules)))

pub returns-clause-same : goal.returns-clause-same
returns-clause-same c =
    let copied : c.extend_from_slice.new.self.items ≡ c.args.dated.now = search rules in
    subst (λ (ds : List Dated). HaveOneLongest c.sort_by_key.new.self.items ds) copied
    (stable_same c.extend_from_slice.new.self.items c.sort_by_key.new.self.items
    (c.sort_by_key.ensures.stable at_of (always_returns_same _ _ _ (λ a r f' k. search rules))))
