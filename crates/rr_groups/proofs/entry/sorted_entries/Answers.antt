use Rattle.std.proofs.Common.{◌≡◌, rules, subst}
use Rattle.std.proofs.lemmas.Fn.{always_returns_same}
use Rattle.std.specs.List.Sorted.{IsPermutation, IsStableBy}
use Rattle.std.proofs.lemmas.List.Sorted.{ranks_by}
use Rattle.rr_groups.specs.Entries.{entries_of, entry_lt}
use Rattle.rr_groups.specs.declared.entry.Entry.{Entry}
use Rattle.rr_groups.proofs.KeyLemmas.{key_cmp_total}
use Rattle.rr_groups.proofs.entry.sorted_entries.Goals as goal

pub returns : goal.returns
returns c =
    let order = ranks_by key_cmp_total (λ (x : Entry). x.key) in
    let all = entries_of c.args.a.now c.args.b.now in
    let put : c.put_entries-2.new.entries.items ≡ all = search rules in
    record {
      moved = subst (λ es. IsPermutation es c.sort_by.new.self.items) put c.in_ok-sort_by.ensures.permutation;
      rises = c.in_ok-sort_by.ensures.sorted entry_lt order (always_returns_same _ _ _ (λ a r f' k. search rules));
      stable = subst (λ es. IsStableBy entry_lt es c.sort_by.new.self.items) put
          (c.in_ok-sort_by.ensures.stable entry_lt order (always_returns_same _ _ _ (λ a r f' k. search rules)));
    }
