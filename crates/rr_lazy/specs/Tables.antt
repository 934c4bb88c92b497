-- What is known by a table of sets is known by one that goes on.
use Rattle.std.specs.Prelude.{◌≡◌, ℕ, ◌≤◌, List, [], length, get_or, take, Option, Some, None, refl, ℤ}
use Rattle.std.specs.List.{All}
use Rattle.std.specs.Option.{ForSome}
use Rattle.std.proofs.Common.{ap, sym, subst}
use Rattle.rr_model.specs.Sets.Tree.{Tree}
use Rattle.rr_model.specs.declared.kind.Kind.{Kind}
use Rattle.rr_shapes.specs.Tables.{Extends}
use Rattle.rr_shapes.proofs.TableLemmas.{same_set}
use Rattle.rr_lazy.specs.declared.occupied_day.OccupiedDay.{OccupiedDay}
use Rattle.rr_lazy.specs.Ahead.{IsAhead, IsAheadIn, day_seen}
use Rattle.rr_lazy.specs.Next.{IsInTable, with_set}
use Rattle.rr_lazy.specs.Stretch.{KnowsPart}

-- a day has the same seconds in a table that goes on
pub same_day : (old new : List (List ℕ)) (found : OccupiedDay) → Extends old new → IsInTable old found
    → IsInTable new found × (with_set new found ≡ with_set old found)
same_day old new found more w =
    let s = same_set old new found.number.index more w.0 in
    ((s.0, subst (λ times. found.count ≤ length times) (sym s.1) w.1), ap (λ times. record { day = found.day; times = take found.count times }) s.1)

-- what was seen of a part is seen of it
pub same_seen : (old new : List (List ℕ)) (ahead : Option OccupiedDay) → Extends old new → ForSome ahead (IsInTable old)
    → ForSome ahead (IsInTable new) × (day_seen new ahead ≡ day_seen old ahead)
same_seen old new None more w = ((λ f e. absurd (cc)), refl)
same_seen old new (Some found) more w =
    let s = same_day old new found more (w found refl) in
    ((λ f e. (let i : f ≡ found = cc in rw i s.0)), ap (λ x. Some x) s.1)

pub ahead_more : (old new : List (List ℕ)) (tree : Tree) (own from : ℤ) (ahead : Option OccupiedDay) → Extends old new
    → IsAheadIn old tree own from ahead → IsAheadIn new tree own from ahead
ahead_more old new tree own from ahead more k =
    let s = same_seen old new ahead more k.within in
    record { within = s.0; known = subst (λ x. IsAhead tree own from x) (sym s.1) k.known }

pub knows_part_more : (old new : List (List ℕ)) (tree : Tree) (own : ℤ) (kind : Kind) (dates : List ℤ) (position : ℤ) (ahead : Option OccupiedDay)
    → Extends old new → KnowsPart old tree own kind dates position ahead → KnowsPart new tree own kind dates position ahead
knows_part_more old new tree own kind dates position ahead more k =
    record { from = k.from; order = k.order; passed = k.passed; known = ahead_more old new tree own k.from ahead more k.known }

pub all_more : {L X : Type 0} (knows : L → List (List ℕ) → Type 0) (tree : L → Tree) (own : L → ℤ)
    (knows_more : (l : L) (old new : List (List ℕ)) → Extends old new → knows l old → knows l new) (position : ℤ) (lazy : X → L)
    (ahead : X → Option OccupiedDay) (parts : List X) (old new : List (List ℕ)) → Extends old new
    → All (λ p. knows (lazy p) old × IsAheadIn old (tree (lazy p)) (own (lazy p)) position (ahead p)) parts
    → All (λ p. knows (lazy p) new × IsAheadIn new (tree (lazy p)) (own (lazy p)) position (ahead p)) parts
all_more knows tree own knows_more position lazy ahead parts old new more k i x l =
    let at = k i x l in
    let p = get_or parts i x in
    (knows_more (lazy p) old new more at.0, ahead_more old new (tree (lazy p)) (own (lazy p)) position (ahead p) more at.1)
