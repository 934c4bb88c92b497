use Rattle.std.proofs.Common.{rules, Ok, ◌≡◌, ◌∙◌, None, arith, w64, to_z, of_z, to_z-of_z, FitsSigned, sym, ap, subst}
use Rattle.std.proofs.lemmas.Int.{ints}
use Rattle.rr_model.specs.Sets.Tree.{many, part, nothing}
use Rattle.rr_lazy.specs.Ahead.{IsAheadIn}
use Rattle.rr_lazy.specs.Next.{IsNextIn}
use Rattle.rr_lazy.specs.PassedOn.{IsAfter}
use Rattle.rr_lazy.proofs.FirstLemmas.{first_day_is}
use Rattle.rr_lazy.proofs.PassedOnLemmas.{all_set_one, forest_one, of_one, of_only, passed_on}
use Rattle.rr_lazy.proofs.many.Many.next_of_one.Given.{Over}
use Rattle.rr_lazy.proofs.many.Many.next_of_one.Goals.{After-position_after-self}
use Rattle.rr_lazy.proofs.many.Many.next_of_one.Goals as goal

pub position_after-self-requires-clause-low : goal.position_after-self-requires-clause-low
position_after-self-requires-clause-low g c =
    let s = c.args.self.now in
    let fits : FitsSigned w64 s.position = search rules in
    omega (arith, ints, to_z-of_z fits, s.begun, first_day_is)

-- what is known of the part after the call, and what the call answers
record Answer (g : Over) (c : After-position_after-self g) : Type 0 where
  same : c.index_mut.result.now ≡ c.requires.one.0
  rest : c.index_mut.result.now.ahead ≡ None
  new : to_z w64 (of_z w64 c.position_after-self.result) ≡ c.position_after-self.result
  both : IsAheadIn c.next.new.sets (g.A.Lazy.tree c.index_mut.result.now.lazy) (g.A.Lazy.position c.next.new.self) c.position_after-self.result None
      × IsNextIn c.next.new.sets (many (part (g.A.Lazy.tree c.index_mut.result.now.lazy) nothing)) c.args.self.now.position c.args.to
      (Ok c.in_ok-found.found) c.position_after-self.result

answer : (g : Over) (c : After-position_after-self g) → Answer g c
answer g c =
    let s = c.args.self.now in
    let one = c.requires.one in
    let asked = c.index_mut.result.now in
    let t = g.A.Lazy.tree asked.lazy in
    let same : asked ≡ one.0 = rw one.1 at c.index_mut.ensures.value in
    let rest : asked.ahead ≡ None = ap (λ p. p.ahead) same ∙ one.2 in
    let position : FitsSigned w64 s.position = search rules in
    let next : FitsSigned w64 c.position_after-self.result = record { sfits = c.position_after-self.type_inv } in
    let to = to_z-of_z c.ranges.to in
    let known = of_only (λ p. g.A.Lazy.knows p.lazy c.args.sets.now × IsAheadIn c.args.sets.now (g.A.Lazy.tree p.lazy) (g.A.Lazy.position p.lazy)
    s.position p.ahead) s.parts.items one.0 asked one.1 same c.requires.knows in
    let found = c.in_ok-found.found in
    let own = g.A.Lazy.position asked.lazy in
    let own_next = g.A.Lazy.position c.next.new.self in
    let of_part = subst (λ x. IsNextIn c.next.new.sets t own x (Ok found) own_next) to c.in_ok-found.ensures.next in
    let index_after = subst (λ x. IsAfter found x c.args.to c.position_after-self.result) (to_z-of_z position)
    (subst (λ x. IsAfter found (to_z w64 (of_z w64 s.position)) x c.position_after-self.result) to c.position_after-self.ensures) in
    record {
      same = same;
      rest = rest;
      new = to_z-of_z next;
      both = passed_on c.args.sets.now c.next.new.sets t (many (part t nothing)) own own_next s.position c.args.to c.position_after-self.result found
          (of_one t) (rw rest at known.1) of_part index_after;
    }

pub returns-clause-knows : goal.returns-clause-knows
returns-clause-knows g c =
    let s = c.args.self.now in
    let sets = c.next.new.sets in
    let a = answer g (goal.at.returns-clause-knows g c).After-position_after-self in
    rw a.new (all_set_one (λ p. g.A.Lazy.knows p.lazy sets × IsAheadIn sets (g.A.Lazy.tree p.lazy) (g.A.Lazy.position p.lazy) c.position_after-self.result p.ahead)
    s.parts.items c.requires.one.0 (record { lazy = c.next.new.self; ahead = c.index_mut.result.now.ahead }) c.requires.one.1
    (c.in_ok-found.ensures.knows, rw (c.in_ok-found.ensures.tree, a.rest) a.both.0))

pub returns-clause-next : goal.returns-clause-next
returns-clause-next g c =
    let a = answer g (goal.at.returns-clause-next g c).After-position_after-self in
    rw a.new (subst (λ f. IsNextIn c.next.new.sets (many f) c.args.self.now.position c.args.to (Ok c.in_ok-found.found) c.position_after-self.result)
    (sym (forest_one (λ p. g.A.Lazy.tree p.lazy) c.args.self.now.parts.items c.requires.one.0 c.index_mut.result.now c.requires.one.1 a.same)) a.both.1)
