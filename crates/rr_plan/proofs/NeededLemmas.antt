-- What a part keeps, no other part has: so no part can be left out.
use Rattle.std.proofs.Common.{◌≡◌, ◌⊎◌, List, [], ◌∷◌, ◌++◌, All, Contains, inl, inr, ℤ, sym, ◌∙◌}
use Rattle.std.proofs.lemmas.Bool.{cases_Bool, false≢true}
use Rattle.std.proofs.lemmas.Cmp.{int_eq_equiv}
use Rattle.std.proofs.lemmas.List.Elements.{All-head, All-tail}
use Rattle.std.proofs.lemmas.Map.Views.{Contains-from_any, list_any-from_Contains}
use Rattle.std.specs.Cmp.{signed_Decides}
use Rattle.std.specs.List.{list_any}
use Rattle.std.specs.Ordering.{int_eq}
use Rattle.rr_model.specs.Moment.{Occurrences}
use Rattle.rr_model.specs.Sets.Sketch.{StandsIn}
use Rattle.rr_model.specs.declared.kind.Kind.{Kind}
use Rattle.rr_plan.specs.Few.{IsOneOf}
use Rattle.rr_plan.specs.Needed.{EachPartIsNeeded}
use Rattle.rr_plan.specs.Plan.{AreApartBy, IsKept, IsMadeBy, IsPart}

-- ---- one of several parts

module _ {X : Type 0} (kept : X → Occurrences) where
  -- what one part keeps is made
  made_by_one : (before after : List X) (part : X) (rest : Occurrences) (k : Kind) (t : ℤ) → kept part k t → IsMadeBy kept (before ++ part ∷ after) rest k t
  made_by_one [] after part rest k t has = inl has
  made_by_one (p ∷ ps) after part rest k t has = inr (made_by_one ps after part rest k t has)

  -- and by none of the others
  made_by_no_other : (before after : List X) (part : X) (rest : Occurrences) → AreApartBy kept (before ++ part ∷ after) rest → (k : Kind) (t : ℤ)
      → kept part k t → IsMadeBy kept (before ++ after) rest k t → ⊥
  made_by_no_other [] after part rest apart k t has made = apart.0 k t has made
  made_by_no_other (p ∷ ps) after part rest apart k t has made =
      elim made [
        | inl first ↦ apart.0 k t first (made_by_one ps after part rest k t has)
        | inr more ↦ made_by_no_other ps after part rest apart.1 k t has more
      ]

-- one of several that all are something is it too
one_of_all : {X : Type 0} (P : X → Type 0) (before after : List X) (part : X) → All P (before ++ part ∷ after) → P part
one_of_all P [] after part all = All-head P part after all
one_of_all P (p ∷ ps) after part all = one_of_all P ps after part (All-tail P p (ps ++ part ∷ after) all)

-- ---- dates and moments

-- a moment is there or it is not
there_or_not : (xs : List ℤ) (t : ℤ) → Contains xs t ⊎ (Contains xs t → ⊥)
there_or_not xs t = elim (cases_Bool (list_any (int_eq t) xs)) [
  | inl found ↦ inl (Contains-from_any (λ x y. (signed_Decides x y).0) t xs found)
  | inr none ↦ inr (λ there. false≢true (sym none ∙ list_any-from_Contains int_eq_equiv t xs there))
]

-- ---- the law

pub each_part_is_needed : EachPartIsNeeded
each_part_is_needed s before after part kind single split equal =
    let rest = IsOneOf kind single in
    let P = StandsIn s in
    let one : IsPart part = one_of_all IsPart before after part split.each in
    one.keeps (λ t occurs.
    elim (there_or_not part.cancelled t) [
      | inl there ↦ there
      | inr absent ↦
          (let k = part.event.kind in
          let has : IsKept part k t = record { occurs = occurs; not_cancelled = absent } in
          let stands : P k t = (split.equal k t).0 (made_by_one IsKept before after part rest k t has) in
          absurd (made_by_no_other IsKept before after part rest split.apart k t has ((equal k t).1 stands)))
    ])
