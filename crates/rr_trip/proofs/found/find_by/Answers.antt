use Rattle.std.proofs.Common.{◌≡◌, length, ap, ◌∙◌, arith}
use Rattle.std.proofs.lemmas.List.{with_items_is}
use Rattle.std.specs.Vec.{with_items}
use Rattle.rr_groups.specs.Pairs.{ArePairs}
use Rattle.rr_model.specs.declared.verdict.Side.TheVariants.{A, B}
use Rattle.rr_trip.specs.Found.{IsFoundBy, with_pairs_a, with_pairs_b}
use Rattle.rr_trip.specs.Likeness.{is_only, keys_by}
use Rattle.rr_trip.specs.declared.found.FoundAgain.{FoundAgain}
use Rattle.rr_trip.proofs.FoundLemmas.{pairs_in_both, sound_next}
use Rattle.rr_trip.proofs.found.find_by.Goals.{After-pairs_are_within, After-put_pairs_b}
use Rattle.rr_trip.proofs.found.find_by.Goals as goal

-- the pairs are those of the keys
pairs_are : (c : After-pairs_are_within) → ArePairs (is_only c.args.likeness) (keys_by c.args.likeness A 0 c.args.a.now c.args.found.now.a.items)
    (keys_by c.args.likeness B 0 c.args.b.now c.args.found.now.b.items) c.in_ok-pairs.pairs.items
pairs_are c =
    let keys_a : c.deref-3.result.now ≡ keys_by c.args.likeness A 0 c.args.a.now c.args.found.now.a.items =
    c.deref-3.ensures.value ∙ c.in_ok-keys_a.ensures ∙ ap (λ fs. keys_by c.args.likeness A 0 c.args.a.now fs) c.deref.ensures.value in
    let keys_b : c.deref-4.result.now ≡ keys_by c.args.likeness B 0 c.args.b.now c.args.found.now.b.items =
    c.deref-4.ensures.value ∙ c.in_ok-keys_b.ensures ∙ ap (λ fs. keys_by c.args.likeness B 0 c.args.b.now fs) c.deref-2.ensures.value in
    rw (c.is_only.ensures, keys_a, keys_b) at c.in_ok-pairs.ensures

pub put_pairs_a-requires : goal.put_pairs_a-requires
put_pairs_a-requires c =
    let pairs_in = pairs_in_both c.pairs_are_within.ensures c.args.likeness c.args.a.now c.args.b.now c.args.found.now.a.items c.args.found.now.b.items
    c.in_ok-pairs.pairs.items (pairs_are (goal.at.put_pairs_a-requires c).After-pairs_are_within) in
    rw (c.deref-5.ensures.value, c.deref_mut.ensures.value) pairs_in.0

pub put_pairs_b-requires : goal.put_pairs_b-requires
put_pairs_b-requires c =
    let pairs_in = pairs_in_both c.pairs_are_within.ensures c.args.likeness c.args.a.now c.args.b.now c.args.found.now.a.items c.args.found.now.b.items
    c.in_ok-pairs.pairs.items (pairs_are (goal.at.put_pairs_b-requires c).After-pairs_are_within) in
    rw (c.deref-6.ensures.value, c.deref_mut-2.ensures.value) pairs_in.1

-- what is found again then
abbrev next : After-put_pairs_b → FoundAgain
next c = record { a = with_items c.args.found.now.a c.put_pairs_a.new.found; b = with_items c.args.found.now.b c.put_pairs_b.new.found }

-- it is found again by these pairs
found_by : (c : After-put_pairs_b) → ArePairs (is_only c.args.likeness) (keys_by c.args.likeness A 0 c.args.a.now c.args.found.now.a.items)
    (keys_by c.args.likeness B 0 c.args.b.now c.args.found.now.b.items) c.in_ok-pairs.pairs.items
    → IsFoundBy c.args.a.now c.args.b.now c.args.likeness c.args.found.now (next c)
found_by c are =
    let put_a : c.put_pairs_a.new.found ≡ with_pairs_a c.args.likeness c.in_ok-pairs.pairs.items c.args.found.now.a.items =
    rw (c.deref-5.ensures.value, c.deref_mut.ensures.value) at c.put_pairs_a.ensures in
    let put_b : c.put_pairs_b.new.found ≡ with_pairs_b c.args.likeness c.in_ok-pairs.pairs.items c.args.found.now.b.items =
    rw (c.deref-6.ensures.value, c.deref_mut-2.ensures.value) at c.put_pairs_b.ensures in
    let as_many_a : length c.put_pairs_a.new.found ≡ c.args.found.now.a.len = omega (arith, c.put_pairs_a.auto.found, c.deref_mut.ensures.len) in
    let as_many_b : length c.put_pairs_b.new.found ≡ c.args.found.now.b.len = omega (arith, c.put_pairs_b.auto.found, c.deref_mut-2.ensures.len) in
    record {
      pairs = c.in_ok-pairs.pairs.items;
      are_pairs = are;
      next_a = with_items_is c.args.found.now.a c.put_pairs_a.new.found as_many_a ∙ put_a;
      next_b = with_items_is c.args.found.now.b c.put_pairs_b.new.found as_many_b ∙ put_b;
    }

pub returns-clause-found : goal.returns-clause-found
returns-clause-found c =
    found_by (goal.at.returns-clause-found c).After-put_pairs_b (pairs_are (goal.at.returns-clause-found c).After-pairs_are_within)

pub returns-clause-sound : goal.returns-clause-sound
returns-clause-sound c = λ count sound.
    let at = (goal.at.returns-clause-sound c).After-put_pairs_b in
    sound_next c.pairs_are_within.ensures count c.args.a.now c.args.b.now c.args.likeness c.args.found.now (next at) sound
    (found_by at (pairs_are (goal.at.returns-clause-sound c).After-pairs_are_within))
