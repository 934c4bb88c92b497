-- What is kept of the names of zones.
use Rattle.std.proofs.Common.{◌≡◌, inl, inr, ℕ, ◌<◌, true, List, [], ◌∷◌, ◌++◌, length, get_or, Option, Some, refl, ap, sym, subst, ◌∙◌}
use Rattle.std.specs.Prelude.{All, bytes_eq, slice_get}
use Rattle.std.proofs.lemmas.List.Elements.{All-get_or, All-push}
use Rattle.std.proofs.lemmas.Option.{get_or_from_slice_get, slice_get_cases, slice_get_read}
use Rattle.std.proofs.lemmas.Slice.Eq.{bytes_eq-Decides}
use Rattle.rr_true.specs.declared.parted.Apart.{Apart}
use Rattle.rr_trip.specs.Known.{AreApartAs, AreKnown, AreZonesApart, IsKnownPair, IsKnownZone, IsNamedAt, IsPairAt}
use Rattle.rr_trip.specs.Zoned.{Meaning}
use Rattle.rr_trip.specs.declared.known.KnownZones.{KnownZones}
use Rattle.rr_trip.specs.declared.known.NamedZone.{NamedZone}
use Rattle.rr_trip.specs.declared.known.PairOfZones.{PairOfZones}
use Rattle.rr_trip.proofs.ZoneLemmas.{apart_meant}

-- equal bytes are one text
pub same_bytes : (xs ys : List ℕ) → bytes_eq xs ys ≡ true → xs ≡ ys
same_bytes xs ys e = (rw e at (bytes_eq-Decides xs ys)).0 refl

-- what holds of all holds of the one at a index
pub at_index : {X : Type 0} (P : X → Type 0) (xs : List X) (i : ℕ) (x : X) → All P xs → slice_get xs i ≡ Some x → P x
at_index P xs i x all e =
    elim (slice_get_cases xs i).1 [
      | inl p ↦ subst P (get_or_from_slice_get xs i x x e) (All-get_or P xs i x p.1 all)
      | inr p ↦ (let q = sym p.1 ∙ e in absurd (cc))
    ]

-- a index that has an element is within
pub within : {X : Type 0} (xs : List X) (i : ℕ) (x : X) → slice_get xs i ≡ Some x → i < length xs
within xs i x e =
    elim (slice_get_cases xs i).1 [
      | inl p ↦ p.1
      | inr p ↦ (let q = sym p.1 ∙ e in absurd (cc))
    ]

-- the element that is read at a index
pub item_at : {X : Type 0} (xs : List X) (i : ℕ) (x : X) → i < length xs → x ≡ get_or xs i x → slice_get xs i ≡ Some x
item_at xs i x l e = slice_get_read xs (length xs) i x refl l e

-- there is one element at a index
pub one_at : {X : Type 0} (xs : List X) (i : ℕ) (x y : X) → slice_get xs i ≡ Some x → slice_get xs i ≡ Some y → x ≡ y
one_at xs i x y ex ey = sym (get_or_from_slice_get xs i x x ex) ∙ get_or_from_slice_get xs i y x ey

-- the zone that is read at a index of a name is what the name means
pub found_at : (means : Meaning) (zones : List NamedZone) (name : List ℕ) (i : ℕ) (x : NamedZone) → All (IsKnownZone means) zones → IsNamedAt zones name i
    → x ≡ get_or zones i x → IsKnownZone means x × (x.name ≡ name)
found_at means zones name i x known named e =
    let at = item_at zones i x (within zones i named.zone named.at) e in (
      at_index (IsKnownZone means) zones i x known at,
      ap (λ (z : NamedZone). z.name) (one_at zones i x named.zone at named.at) ∙ named.named,
    )

-- ---- pairs

module _ (ma mb : Meaning) (old : KnownZones) where
  -- what is kept of a pair is so of its names
  pub kept_pair : (a b : List ℕ) (apart : Option Apart) → AreKnown ma mb old → IsPairAt old.pairs.items a b apart → AreApartAs ma mb a b apart
  kept_pair a b apart known is =
      let p = at_index (IsKnownPair ma mb) old.pairs.items is.index is.pair known.pairs is.at in
      subst (λ n. AreApartAs ma mb n b apart) is.first
      (subst (λ n. AreApartAs ma mb is.pair.a n apart) is.second (subst (λ o. AreApartAs ma mb is.pair.a is.pair.b o) is.is p))

  -- what is found out of two zones is so of their names
  pub found_pair : (a b : List ℕ) (i j : ℕ) (x y : NamedZone) (apart : Option Apart) → AreKnown ma mb old → IsNamedAt old.a.zones.items a i
      → IsNamedAt old.b.zones.items b j → x ≡ get_or old.a.zones.items i x → y ≡ get_or old.b.zones.items j y → AreZonesApart x y apart
      → AreApartAs ma mb a b apart
  found_pair a b i j x y apart known na nb ex ey h =
      let of_a = found_at ma old.a.zones.items a i x known.a na ex in
      let of_b = found_at mb old.b.zones.items b j y known.b nb ey in
      apart_meant ma mb x y a b apart of_a.0 of_b.0 of_a.1 of_b.1 h

  -- one pair more is kept
  pub more_pairs : (new : KnownZones) (pair : PairOfZones) → AreKnown ma mb old → new.a.zones.items ≡ old.a.zones.items → new.b.zones.items ≡ old.b.zones.items
      → new.pairs.items ≡ old.pairs.items ++ pair ∷ [] → IsKnownPair ma mb pair → AreKnown ma mb new
  more_pairs new pair known ea eb ep h = record {
    a = subst (λ zs. All (IsKnownZone ma) zs) (sym ea) known.a;
    b = subst (λ zs. All (IsKnownZone mb) zs) (sym eb) known.b;
    pairs = subst (λ ps. All (IsKnownPair ma mb) ps) (sym ep) (All-push (IsKnownPair ma mb) old.pairs.items pair known.pairs h);
  }
