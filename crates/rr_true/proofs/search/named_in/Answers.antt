use Rattle.std.proofs.Common.{FitsSigned, w32, w64, rules, to_z-of_z, arith}
use Rattle.std.proofs.lemmas.Int.{ints}
use Rattle.rr_true.proofs.search.named_in.Goals.{else-from-named-via-then-from-named+else-named-span, else-from-named-via-else-from-named}
use Rattle.rr_true.proofs.search.named_in.Goals as goal

pub returns-else-from-named : goal.returns-else-from-named
returns-else-from-named c v low high e =
    let offset : FitsSigned w32 c.args.span.offset = search rules in
    let end : FitsSigned w64 c.args.span.end = search rules in
    let named : FitsSigned w64 c.by_offset-named.result = search rules in
    let same = rw (to_z-of_z c.ranges.local, to_z-of_z offset) at c.by_offset-named.ensures in
    elim c.else-from-named.branch [
      | else-from-named-via-then-from-named+else-named-span w ↦
          (let late = rw (to_z-of_z named, to_z-of_z end) at w.if-named-span.false in omega (arith, ints, e, same, late, high))
      | else-from-named-via-else-from-named w ↦
          (let late = rw (to_z-of_z named, to_z-of_z c.ranges.from) at w.if-from-named.false in omega (arith, ints, e, same, late, low))
    ]
