use Rattle.std.proofs.Common.{inl, inr, ◌∙◌}
use Rattle.rr_decide.proofs.QuietLemmas.{both_placed}
use Rattle.rr_decide.proofs.quiet.Quiet.make_table.Goals as goal

pub returns-then-are_two : goal.returns-then-are_two
returns-then-are_two c =
    both_placed c.args.self.now c.place-then-are_two.new.self c.in-Some.recent c.in-Some.is (c.place-then-are_two.ensures.alike ∙ c.place.ensures.alike)
    (c.place-then-are_two.ensures.recent ∙ c.place.ensures.recent)
    (λ a b h.
    elim (c.place-then-are_two.ensures.placed a b h) [
      | inl old ↦ elim (c.place.ensures.placed a b old) [ inl none ↦ absurd (c.new.ensures a b none) | inr earlier ↦ inl earlier ]
      | inr last ↦ inr last
    ])
