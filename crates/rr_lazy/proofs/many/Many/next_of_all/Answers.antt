use Rattle.std.proofs.Common.{rules, refl, ◌≡◌, ◌⊎◌, ◌≤ℤ◌, ◌<ℤ◌, ◌+ℤ◌, pos, All, [], List, ℕ, length, arith, w64, to_z, of_z, to_z-of_z, FitsSigned, sym, ap, ◌∙◌}
use Rattle.std.proofs.lemmas.Int.{ints}
use Rattle.std.specs.Option.{ForSome, ForNone}
use Rattle.rr_model.specs.Calendar.{first_day_of_year}
use Rattle.rr_lazy.specs.Ahead.{IsAhead, IsAheadIn, day_seen}
use Rattle.rr_lazy.specs.Many.{forest_of, GaveDaySome, IsLeftBy}
use Rattle.rr_lazy.specs.Next.{HasNone}
use Rattle.rr_lazy.specs.Tables.{all_more}
use Rattle.rr_model.specs.Sets.Tree.{many}
use Rattle.rr_lazy.proofs.FirstLemmas.{first_day_is}
use Rattle.rr_lazy.proofs.AheadLemmas.{day_fits}
use Rattle.rr_lazy.proofs.UptoLemmas.{begun_next}
use Rattle.rr_lazy.proofs.ManyLemmas.{all_given, all_none, all_none_by, all_seen, all_some_by, forest_left, gave_it, gave_some_by, known_left, known_on}
use Rattle.rr_lazy.proofs.ManyLemmas.{many_given, many_late, next_given, part_exists}
use Rattle.rr_lazy.proofs.many.Many.next_of_all.Given.{Over}
use Rattle.rr_lazy.proofs.many.Many.next_of_all.Goals.{After-deref, After-deref-2, After-position_past-self}
use Rattle.rr_lazy.proofs.many.Many.next_of_all.Goals as goal

-- ---- what is known once all parts were asked

position_is : (g : Over) (c : After-deref g) → to_z w64 (of_z w64 c.args.self.now.position) ≡ c.args.self.now.position
position_is g c = let fits : FitsSigned w64 c.args.self.now.position = search rules in to_z-of_z fits

held : (g : Over) (c : After-deref g)
    → All (λ p. g.A.Lazy.knows p.lazy c.ask_all.new.sets × IsAheadIn c.ask_all.new.sets (g.A.Lazy.tree p.lazy) (g.A.Lazy.position p.lazy)
    c.args.self.now.position p.ahead) c.ask_all.new.parts.items
held g c = rw (position_is g c) at c.in_ok-ask_all.ensures.known

known : (g : Over) (c : After-deref g) → All (λ p. IsAhead (g.A.Lazy.tree p.lazy) (g.A.Lazy.position p.lazy) c.args.self.now.position
    (day_seen c.ask_all.new.sets p.ahead)) c.ask_all.new.parts.items
known g c = all_seen (λ l. g.A.Lazy.knows l c.ask_all.new.sets) g.A.Lazy.tree g.A.Lazy.position (λ p. p.lazy) (λ p. p.ahead) c.ask_all.new.sets
    c.ask_all.new.parts.items c.args.self.now.position (held g c)

none : (g : Over) (c : After-deref g) (sets : List (List ℕ)) → All (λ p. ForNone (day_seen sets p.ahead) (c.args.to <ℤ g.A.Lazy.position p.lazy)) c.ask_all.new.parts.items
none g c sets =
    all_none_by sets (λ p. g.A.Lazy.position p.lazy) (λ p. p.ahead) c.ask_all.new.parts.items c.args.to
    (rw (to_z-of_z c.ranges.to) at c.in_ok-ask_all.ensures.none)

after_to : (g : Over) (c : After-deref g) → to_z w64 (of_z w64 (to_z w64 (of_z w64 c.args.to) +ℤ pos 1)) ≡ c.args.to +ℤ pos 1
after_to g c = omega (arith, ints, to_z-of_z c.ranges.to, c.requires.low, c.requires.high)

-- ---- if no part has a day up to the last one

record Passed (g : Over) (c : After-position_past-self g) : Type 0 where
  new : to_z w64 (of_z w64 c.position_past-self.result) ≡ c.position_past-self.result
  kept : c.args.self.now.position ≤ℤ c.position_past-self.result
  one : (c.position_past-self.result ≡ c.args.to +ℤ pos 1) ⊎ (c.position_past-self.result ≡ c.args.self.now.position)
  later : All (λ p. IsAhead (g.A.Lazy.tree p.lazy) (g.A.Lazy.position p.lazy) c.position_past-self.result (day_seen c.ask_all.new.sets p.ahead)) c.ask_all.new.parts.items
  nothing : HasNone (many (forest_of (λ p. g.A.Lazy.tree p.lazy) c.ask_all.new.parts.items)) c.args.self.now.position c.position_past-self.result

passed : (g : Over) (c : After-position_past-self g) → Passed g c
passed g c =
    let asked = (goal.at.invariant_of-self-then-day-to g c).After-deref in
    let xs = c.ask_all.new.parts.items in
    let sets = c.ask_all.new.sets in
    let f = position_is g asked in
    let t = to_z-of_z c.ranges.to in
    let day = c.first_of_all-day.result in
    let some : All (λ p. ForSome (day_seen [] p.ahead) (λ x. day ≤ℤ x.day)) xs = rw c.deref.ensures.value at c.first_of_all-day.ensures.least in
    let least = all_some_by sets (λ p. g.A.Lazy.position p.lazy) (λ p. p.ahead) xs day some in
    let df : FitsSigned w64 day = record { sfits = c.first_of_all-day.type_inv } in
    let rf : FitsSigned w64 c.position_past-self.result = record { sfits = c.position_past-self.type_inv } in
    let kept = rw f at c.position_past-self.ensures.kept in
    let one = rw (f, t) at c.position_past-self.ensures.one in
    let over : c.args.to <ℤ day = omega (arith, ints, c.if-day-to.true, to_z-of_z df, t) in
    let a = all_none (λ p. g.A.Lazy.tree p.lazy) (λ p. g.A.Lazy.position p.lazy) (λ p. day_seen sets p.ahead) xs c.args.self.now.position c.args.to
    c.position_past-self.result (known g asked) kept one (λ k z l x h. omega (arith, ints, least k z l x h, over)) (none g asked sets) in
    record { new = to_z-of_z rf; kept = kept; one = one; later = a.0; nothing = a.1 }

pub invariant_of-self-then-day-to : goal.invariant_of-self-then-day-to
invariant_of-self-then-day-to g c =
    let s = c.args.self.now in
    let p = passed g c in
    record { begun = omega (arith, ints, s.begun, p.kept, p.new); one_kind = rw c.in_ok-ask_all.ensures.tree s.one_kind }

pub returns-then-day-to-clause-knows : goal.returns-then-day-to-clause-knows
returns-then-day-to-clause-knows g c =
    let a = (goal.at.returns-then-day-to-clause-knows g c).After-position_past-self in
    let p = passed g a in
    rw p.new (known_on (λ l. g.A.Lazy.knows l c.ask_all.new.sets) g.A.Lazy.tree g.A.Lazy.position (λ p. p.lazy) (λ p. p.ahead) c.ask_all.new.sets
    c.ask_all.new.parts.items c.args.self.now.position (held g (goal.at.returns-then-day-to-clause-knows g c).After-deref) c.position_past-self.result p.later)

pub returns-then-day-to-clause-next : goal.returns-then-day-to-clause-next
returns-then-day-to-clause-next g c =
    let p = passed g (goal.at.returns-then-day-to-clause-next g c).After-position_past-self in
    rw (p.new, sym c.in_ok-ask_all.ensures.tree) (p.nothing, p.kept, rw (to_z-of_z c.ranges.to) at c.position_past-self.ensures.past, p.one)

-- ---- if some part has one

record Found (g : Over) (c : After-deref-2 g) : Type 0 where
  same : to_z w64 (of_z w64 c.first_of_all-day.result) ≡ c.first_of_all-day.result
  within : c.first_of_all-day.result ≤ℤ c.args.to
  gave : GaveDaySome (λ p. day_seen c.ask_all.new.sets p.ahead) c.ask_all.new.parts.items c.first_of_all-day.result
  least : (sets : List (List ℕ)) → All (λ p. ForSome (day_seen sets p.ahead) (λ f. c.first_of_all-day.result ≤ℤ f.day)) c.ask_all.new.parts.items
  free : (sets : List (List ℕ)) → All (λ p. ForNone (day_seen sets p.ahead) (c.first_of_all-day.result <ℤ g.A.Lazy.position p.lazy)) c.ask_all.new.parts.items
  late : c.args.self.now.position ≤ℤ c.first_of_all-day.result
  next : to_z w64 (of_z w64 (to_z w64 (of_z w64 c.first_of_all-day.result) +ℤ pos 1)) ≡ c.first_of_all-day.result +ℤ pos 1

found : (g : Over) (c : After-deref-2 g) → Found g c
found g c =
    let asked = (goal.at.all_on-requires g c).After-deref in
    let s = c.args.self.now in
    let xs = c.ask_all.new.parts.items in
    let sets = c.ask_all.new.sets in
    let day = c.first_of_all-day.result in
    let some : All (λ p. ForSome (day_seen [] p.ahead) (λ f. day ≤ℤ f.day)) xs = rw c.deref.ensures.value at c.first_of_all-day.ensures.least in
    let least = λ (sets : List (List ℕ)). all_some_by sets (λ p. g.A.Lazy.position p.lazy) (λ p. p.ahead) xs day some in
    let df : FitsSigned w64 day = record { sfits = c.first_of_all-day.type_inv } in
    let d = to_z-of_z df in
    let within : day ≤ℤ c.args.to = omega (arith, ints, c.if-day-to.false, d, to_z-of_z c.ranges.to) in
    let one : (day ≡ c.args.to +ℤ pos 1) ⊎ GaveDaySome (λ p. day_seen [] p.ahead) xs day =
    rw (after_to g asked, c.deref.ensures.value) at c.first_of_all-day.ensures.one in
    let gave = gave_some_by sets (λ p. g.A.Lazy.position p.lazy) (λ p. p.ahead) xs day (gave_it (λ p. day_seen [] p.ahead) xs day c.args.to within one) in
    let free : (sets : List (List ℕ)) → All (λ p. ForNone (day_seen sets p.ahead) (day <ℤ g.A.Lazy.position p.lazy)) xs =
    λ sets k z l h. omega (arith, ints, none g asked sets k z l h, within) in
    let late = many_late (λ p. g.A.Lazy.tree p.lazy) (λ p. g.A.Lazy.position p.lazy) (λ p. day_seen sets p.ahead) xs s.position (known g asked) day gave
    (least sets) (free sets) (part_exists xs gave.0 gave.1) in
    let fit = day_fits s.position day c.args.to (rw first_day_is at s.begun) late within c.requires.high in
    record { same = d; within = within; gave = gave; least = least; free = free; late = late; next = rw d fit.1 }

pub all_on-requires : goal.all_on-requires
all_on-requires g c =
    let s = c.args.self.now in
    let xs = c.ask_all.new.parts.items in
    let sets = c.ask_all.new.sets in
    rw c.deref-2.ensures.value
    (all_given (λ l. g.A.Lazy.knows l sets) g.A.Lazy.tree g.A.Lazy.position (λ p. p.lazy) (λ p. p.ahead) sets xs (to_z w64 (of_z w64 s.position))
    c.in_ok-ask_all.ensures.known)

pub returns-in_err-found-clause-knows : goal.returns-in_err-found-clause-knows
returns-in_err-found-clause-knows g c =
    all_more g.A.Lazy.knows g.A.Lazy.tree g.A.Lazy.position g.met.A.Lazy.knows_more c.args.self.now.position (λ p. p.lazy) (λ p. p.ahead)
    c.ask_all.new.parts.items c.ask_all.new.sets c.all_on.new.sets c.all_on.ensures.kept
    (held g (goal.at.returns-in_err-found-clause-knows g c).After-deref)

pub overflow_add-self : goal.overflow_add-self
overflow_add-self g c =
    let f = found g (goal.at.overflow_add-self g c).After-deref-2 in
    omega (arith, ints, f.same, f.within, f.late, c.args.self.now.begun, first_day_is, c.requires.high)

pub invariant_of-self-in-Break-branch-2 : goal.invariant_of-self-in-Break-branch-2
invariant_of-self-in-Break-branch-2 g c =
    let s = c.args.self.now in
    record { begun = s.begun; one_kind = rw c.in_ok-ask_all.ensures.tree s.one_kind }

pub invariant_of-self-2 : goal.invariant_of-self-2
invariant_of-self-2 g c =
    let s = c.args.self.now in
    let xs = c.ask_all.new.parts.items in
    let sets = c.ask_all.new.sets in
    let day = c.first_of_all-day.result in
    let f = found g (goal.at.invariant_of-self-2 g c).After-deref-2 in
    let left : IsLeftBy (λ p. day_seen sets p.ahead) (λ p. p.lazy) xs day (length xs) c.forget_all.new.parts.items = rw f.same at c.forget_all.ensures.left sets in
    record {
      begun = begun_next (first_day_of_year (pos 1)) s.position s.position day _ s.begun refl f.late f.next;
      one_kind = rw (
        forest_left g.A.Lazy.tree g.A.Lazy.position (λ p. p.lazy) (λ p. day_seen sets p.ahead) xs c.forget_all.new.parts.items s.position day (pos 0) left,
        c.in_ok-ask_all.ensures.tree,
      ) s.one_kind;
    }

pub returns-clause-tree : goal.returns-clause-tree
returns-clause-tree g c =
    let xs = c.ask_all.new.parts.items in
    let sets = c.ask_all.new.sets in
    ap many (forest_left g.A.Lazy.tree g.A.Lazy.position (λ p. p.lazy) (λ p. day_seen sets p.ahead) xs c.forget_all.new.parts.items (pos 0)
    (to_z w64 (of_z w64 c.first_of_all-day.result)) (pos 0) (c.forget_all.ensures.left sets) ∙ c.in_ok-ask_all.ensures.tree)

pub returns-clause-knows : goal.returns-clause-knows
returns-clause-knows g c =
    let s = c.args.self.now in
    let xs = c.ask_all.new.parts.items in
    let day = c.first_of_all-day.result in
    let new = c.all_on.new.sets in
    let f = found g (goal.at.returns-clause-knows g c).After-deref-2 in
    let held_on = all_more g.A.Lazy.knows g.A.Lazy.tree g.A.Lazy.position g.met.A.Lazy.knows_more s.position (λ p. p.lazy) (λ p. p.ahead) xs
    c.ask_all.new.sets new c.all_on.ensures.kept (held g (goal.at.returns-clause-knows g c).After-deref) in
    let left : IsLeftBy (λ p. day_seen new p.ahead) (λ p. p.lazy) xs day (length xs) c.forget_all.new.parts.items = rw f.same at c.forget_all.ensures.left new in
    rw f.next (known_left (λ l. g.A.Lazy.knows l new) g.A.Lazy.tree g.A.Lazy.position (λ p. p.lazy) (λ p. p.ahead) new xs s.position held_on
    c.forget_all.new.parts.items day (day +ℤ pos 1) f.late (f.least new) (f.free new) left
    (c.forget_all.ensures.within new (λ k z l. (held_on k z l).1.within)) refl)

pub returns-clause-next : goal.returns-clause-next
returns-clause-next g c =
    let s = c.args.self.now in
    let xs = c.ask_all.new.parts.items in
    let sets = c.ask_all.new.sets in
    let day = c.first_of_all-day.result in
    let f = found g (goal.at.returns-clause-next g c).After-deref-2 in
    let some = part_exists xs f.gave.0 f.gave.1 in
    let given = rw (f.same, c.deref-2.ensures.value) at c.in_ok-found.ensures.given in
    next_given (many (forest_of (λ p. g.A.Lazy.tree p.lazy) s.parts.items)) s.position c.args.to day _ sets c.all_on.new.sets (λ p. p.ahead) xs
    c.in_ok-found.found given f.gave some
    (rw (sym c.in_ok-ask_all.ensures.tree)
    (many_given (λ p. g.A.Lazy.tree p.lazy) (λ p. g.A.Lazy.position p.lazy) (λ p. day_seen sets p.ahead) xs s.position
    (known g (goal.at.returns-clause-next g c).After-deref) day f.gave (f.least sets) (f.free sets) some)) f.within f.next
