-- The parts of groups, put one by one.
use Rattle.std.proofs.Common.{◌≡◌, List, [], ◌∷◌, ◌++◌, append_assoc, append-nil, length, ap, refl, sym, ◌∙◌, subst, arith}
use Rattle.rr_groups.specs.declared.group.Group.{Group}
use Rattle.rr_trip.specs.Parts.{ArePartsOf, ArePutApart, IsAtOnePlace, IsPartOfA, IsPartOfB}

-- two parts behind others
pub put_apart : (group part_a part_b : Group) (old between new : List Group) → IsPartOfA group part_a → IsPartOfB group part_b
    → between ≡ old ++ part_a ∷ [] → new ≡ between ++ part_b ∷ [] → ArePutApart group old new
put_apart group part_a part_b old between new of_a of_b first second = record {
  part_a = part_a;
  part_b = part_b;
  of_a = of_a;
  of_b = of_b;
  put = second ∙ ap (λ gs. gs ++ part_b ∷ []) first ∙ append_assoc old (part_a ∷ []) (part_b ∷ []);
}

-- the parts so far are those of the groups before the rest
abbrev pub AreUpTo : List Group → List Group → List Group → Type 0
AreUpTo groups rest parts = (more : List Group) → ArePartsOf rest more → ArePartsOf groups (parts ++ more)

-- one group more, as it is
pub whole_next : (groups : List Group) (group : Group) (rest parts new : List Group) → AreUpTo groups (group ∷ rest) parts → (IsAtOnePlace group → ⊥)
    → new ≡ parts ++ group ∷ [] → AreUpTo groups rest new
whole_next groups group rest parts new so_far whole put more are =
    subst (ArePartsOf groups) (sym (append_assoc parts (group ∷ []) more) ∙ sym (ap (λ gs. gs ++ more) put))
    (so_far (group ∷ more) (ArePartsOf.whole group rest more whole are))

-- one group more, in two parts
pub parted_next : (groups : List Group) (group : Group) (rest parts new : List Group) → AreUpTo groups (group ∷ rest) parts → IsAtOnePlace group
    → ArePutApart group parts new → AreUpTo groups rest new
parted_next groups group rest parts new so_far at apart more are =
    subst (ArePartsOf groups)
    (sym (append_assoc parts (apart.part_a ∷ apart.part_b ∷ []) more) ∙ sym (ap (λ gs. gs ++ more) apart.put))
    (so_far (apart.part_a ∷ apart.part_b ∷ more)
    (ArePartsOf.parted group apart.part_a apart.part_b rest more at apart.of_a apart.of_b are))

-- no group is left
pub none_left : (groups rest parts : List Group) → AreUpTo groups rest parts → rest ≡ [] → ArePartsOf groups parts
none_left groups rest parts so_far none =
    subst (ArePartsOf groups) (append-nil parts) (so_far [] (subst (λ gs. ArePartsOf gs []) (sym none) ArePartsOf.none))

-- a list of length 0 is empty
pub nothing_of : (groups : List Group) → length groups ≡ 0 → groups ≡ []
nothing_of [] none = refl
nothing_of (g ∷ gs) none = absurd (omega (arith, none))
