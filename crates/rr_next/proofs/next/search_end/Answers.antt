use Rattle.std.proofs.Common.{rules, ◌≡◌, ◌∙◌, Some, FitsSigned, w64, to_z, of_z, to_z-of_z, inl, inr, sym, ap, arith}
use Rattle.std.proofs.lemmas.Int.{ints, clamps, by_lt_z}
use Rattle.rr_next.proofs.next.search_end.Goals as goal

pub returns-in-None-clause-end : goal.returns-in-None-clause-end
returns-in-None-clause-end c = record {
  soon = by_lt_z c.args.from c.args.settled (λ l. inr (omega (arith, ints, clamps, l, c.requires.near.0, c.requires.near.1)))
      (λ g. inl (omega (arith, ints, clamps, g, c.requires.near.0, c.requires.near.1)));
  enough = inl (
    omega (arith, ints, clamps, c.requires.near.0, c.requires.near.1),
    omega (arith, ints, clamps, c.requires.near.0, c.requires.near.1),
  );
}

pub returns-in-Some-clause-end : goal.returns-in-Some-clause-end
returns-in-Some-clause-end c =
    let fits : FitsSigned w64 c.in-Some.stop = search rules in
    let back = to_z-of_z fits in
    let low = c.requires.near.0 in
    let high = c.requires.near.1 in
    record {
      soon = by_lt_z c.args.from c.args.settled (λ l. inr (omega (arith, ints, clamps, l, low, high, back)))
          (λ g. inl (omega (arith, ints, clamps, g, low, high, back)));
      enough = by_lt_z c.min.result c.in-Some.stop
          (λ l. inl (omega (arith, ints, clamps, l, low, high, back), omega (arith, ints, clamps, l, low, high, back)))
          (λ g. inr (let e : to_z w64 (of_z w64 c.min.result) ≡ c.in-Some.stop = omega (arith, ints, clamps, g, low, high, back) in
          c.in-Some.is ∙ ap Some (sym e)));
    }

pub returns-in-Some-clause-within : goal.returns-in-Some-clause-within
returns-in-Some-clause-within c = omega (arith, ints, clamps, c.requires.near.0, c.requires.near.1)
