use Rattle.std.proofs.Common.{◌≡◌, ◌++◌, ◌∷◌, [], arith, ℤ, pos, ◌+◌, ◌+ℤ◌, w64, to_z, of_z, to_z-of_z}
use Rattle.std.proofs.lemmas.Int.{ints}
use Rattle.rr_expand.proofs.AllowedListLemmas.{listed_next}
use Rattle.rr_expand.proofs.allowed_days.list_all.Goals as goal

pub loop-k-preserved : goal.loop-k-preserved
loop-k-preserved c f all =
    let first : ℤ = to_z w64 (of_z w64 c.args.first) in
    let k = c.loop-k.k in
    let is : to_z w64 (of_z w64 (to_z w64 (of_z w64 c.args.first) +ℤ to_z w64 (of_z w64 c.from.result))) ≡ first +ℤ pos k =
    omega (arith, ints, c.from.ensures, c.requires.first, c.requires.last, c.loop-k-test.true) in
    let more : c.push.new.self.items ≡ c.loop-k.days.items ++ (first +ℤ pos k) ∷ [] = rw is at c.in_ok-push.ensures.items in
    listed_next f first all (first +ℤ pos k) (first +ℤ pos (k + 1)) c.loop-k.days.items c.push.new.self.items (omega (arith, ints)) (omega (arith, ints)) more
    (c.loop-k.invariant f all)

pub returns : goal.returns
returns c f all =
    let last : c.loop-k.k ≡ c.args.count = omega (arith, c.loop-k.auto.k-end, c.loop-k-test.false) in
    rw last at (rw (to_z-of_z c.ranges.first) at (c.loop-k.invariant f all))
