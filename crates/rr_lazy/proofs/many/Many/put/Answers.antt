use Rattle.std.proofs.Common.{◌≡◌, All, negsuc, subst, sym, ap, ◌∙◌}
use Rattle.std.specs.Prelude.{None}
use Rattle.rr_lazy.specs.Ahead.{IsAhead, IsAheadIn}
use Rattle.rr_model.specs.Sets.Tree.{many, IsOfOneKind}
use Rattle.rr_lazy.specs.Many.{forest_of}
use Rattle.rr_lazy.proofs.FirstLemmas.{first_day_is}
use Rattle.rr_lazy.proofs.AheadLemmas.{unasked_ahead}
use Rattle.rr_lazy.proofs.ManyLemmas.{forest_push, all_push, of_either}
use Rattle.rr_lazy.proofs.many.Many.put.Goals as goal

pub returns-clause-tree : goal.returns-clause-tree
returns-clause-tree g c =
    rw c.in_ok-push.ensures.items (ap many (forest_push (λ p. g.A.Lazy.tree p.lazy) c.args.self.now.parts.items (record { lazy = c.args.lazy; ahead = None })))

pub invariant_of-self : goal.invariant_of-self
invariant_of-self g c =
    let s = c.args.self.now in
    record {
      begun = s.begun;
      one_kind = of_either (λ xs. IsOfOneKind (many (forest_of (λ p. g.A.Lazy.tree p.lazy) xs))) _ _ _ c.push.new.self.items c.push.ensures.items
          (subst (λ f. IsOfOneKind (many f))
          (sym (forest_push (λ p. g.A.Lazy.tree p.lazy) s.parts.items (record { lazy = c.args.lazy; ahead = None }))) c.requires.one_kind) s.one_kind;
    }

pub returns-clause-knows : goal.returns-clause-knows
returns-clause-knows g c sets old part =
    let s = c.args.self.now in
    let at : s.position ≡ negsuc 719_161 = c.requires.unasked ∙ first_day_is in
    let new = unasked_ahead (g.A.Lazy.tree c.args.lazy) (g.A.Lazy.position c.args.lazy) c.requires.part_unasked in
    of_either (λ xs. All (λ p. g.A.Lazy.knows p.lazy sets × IsAheadIn sets (g.A.Lazy.tree p.lazy) (g.A.Lazy.position p.lazy) s.position p.ahead) xs) _ _ _
    c.push.new.self.items c.push.ensures.items
    (all_push (λ p. g.A.Lazy.knows p.lazy sets × IsAheadIn sets (g.A.Lazy.tree p.lazy) (g.A.Lazy.position p.lazy) s.position p.ahead) s.parts.items
    (record { lazy = c.args.lazy; ahead = None }) old (
      part,
      record {
        within = λ f e. absurd (cc);
        known = subst (λ z. IsAhead (g.A.Lazy.tree c.args.lazy) (g.A.Lazy.position c.args.lazy) z None) (sym at) new;
      },
    )) old
