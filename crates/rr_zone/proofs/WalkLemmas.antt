-- The steps of walks over tables, and the cases of local time.
use Rattle.std.proofs.Common.{◌≡◌, ℕ, ◌+◌, ◌<◌, true, false, ℤ, ◌+ℤ◌, List, [], ◌∷◌, ◌++◌, length, drop, get_or, take, Option, Some, refl, sym, ap, ◌∙◌}
use Rattle.std.specs.Prelude.{int_lt}
use Rattle.std.specs.List.{AllZip}
use Rattle.std.proofs.lemmas.List.{take_more}
use Rattle.rr_zone.specs.Clocks.{local_from}
use Rattle.rr_zone.specs.Onsets.{earlier, with_last}
use Rattle.rr_zone.specs.Tables.{first_of, last_listed, last_of}
use Rattle.rr_zone.specs.declared.clock.LocalTime.TheVariants.{Once, Again, Skipping}
use Rattle.rr_zone.specs.declared.clock.Onset.{Onset}
use Rattle.rr_zone.specs.declared.clock.Table.{Table}
use Rattle.rr_zone.proofs.PartLemmas.{at_read_more}

-- ---- two lists side by side

module _ {A B : Type 0} (R : A → B → Type 0) where
  zip_push : (xs : List A) (ys : List B) (x : A) (y : B) → AllZip R xs ys → R x y → AllZip R (xs ++ x ∷ []) (ys ++ y ∷ [])
  zip_push [] [] x y all r = (r, tt)
  zip_push [] (v ∷ vs) x y all r = absurd all
  zip_push (u ∷ us) [] x y all r = absurd all
  zip_push (u ∷ us) (v ∷ vs) x y all r = (all.0, zip_push us vs x y all.1 r)

  -- one pair more
  pub zip_more : (xs : List A) (ys : List B) (i : ℕ) (x : A) (y : B) → i < length xs → x ≡ get_or xs i x → AllZip R (take i xs) ys → R x y
      → AllZip R (take (i + 1) xs) (ys ++ y ∷ [])
  zip_more xs ys i x y l e all r =
      let next : take (i + 1) xs ≡ take i xs ++ x ∷ [] = take_more xs i x l ∙ ap (λ z. take i xs ++ z ∷ []) (sym e) in
      rw next (zip_push (take i xs) ys x y all r)

-- ---- one table more

module _ (tables : List Table) (i : ℕ) (x : Table) (within : i < length tables) (is : x ≡ get_or tables i x) (all : Option Onset) where
  -- one table more is looked at for the first onset
  pub first_seen : (found : Option Onset) (next : Onset) → next ≡ earlier found (record { at = x.first; from = x.from; to = x.to })
      → first_of found (drop i tables) ≡ all → first_of (Some next) (drop (i + 1) tables) ≡ all
  first_seen found next e so_far =
      ap (λ z. first_of (Some z) (drop (i + 1) tables)) e ∙ sym (at_read_more (first_of found) tables i x within is) ∙ so_far

  -- one table more is looked at for the last onset
  pub last_seen : (found next : Option Onset) (onset : Option ℤ) (at : ℤ) → onset ≡ last_listed x.onsets at → next ≡ with_last found x.from x.to onset
      → last_of found (drop i tables) at ≡ all → last_of next (drop (i + 1) tables) at ≡ all
  last_seen found next onset at o e so_far =
      ap (λ z. last_of z (drop (i + 1) tables) at) (e ∙ ap (with_last found x.from x.to) o)
      ∙ sym (at_read_more (λ xs. last_of found xs at) tables i x within is) ∙ so_far

-- ---- local time

module _ (onset : Onset) (at local single : ℤ) (is_local : local ≡ at +ℤ onset.to) (is_single : single ≡ onset.at +ℤ onset.from) where
  pub again : int_lt local single ≡ true → Again single ≡ local_from onset at
  again e =
      let test : int_lt (at +ℤ onset.to) (onset.at +ℤ onset.from) ≡ true = rw (is_local, is_single) at e in
      rw (test, ← is_single) refl

  module _ (unset set : ℤ) (is_unset : unset ≡ at +ℤ onset.from) (is_set : set ≡ onset.at +ℤ onset.to) (e : int_lt local single ≡ false) where
    not_again : int_lt (at +ℤ onset.to) (onset.at +ℤ onset.from) ≡ false
    not_again = rw (is_local, is_single) at e

    pub skipping : int_lt unset set ≡ true → Skipping local ≡ local_from onset at
    skipping f =
        let test : int_lt (at +ℤ onset.from) (onset.at +ℤ onset.to) ≡ true = rw (is_unset, is_set) at f in
        rw (not_again, test, ← is_local) refl

    pub once : int_lt unset set ≡ false → Once local ≡ local_from onset at
    once f =
        let test : int_lt (at +ℤ onset.from) (onset.at +ℤ onset.to) ≡ false = rw (is_unset, is_set) at f in
        rw (not_again, test, ← is_local) refl
