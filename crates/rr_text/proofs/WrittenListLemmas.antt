-- A written list is read back (RFC 5545, section 3.3.10), and how a text grows that is written value by value.
use Rattle.std.proofs.Common.{◌≡◌, ℕ, Bool, true, false, not, List, [], ◌∷◌, ◌++◌, map, Result, Ok, Err, refl, sym, ap, ◌∙◌, append_assoc, append-nil, arith}
use Rattle.std.specs.Prelude.{◌==◌, if◌then◌else◌}
use Rattle.std.specs.List.{list_all, AllByRecursion, join_with_byte}
use Rattle.std.proofs.lemmas.Bool.{and_parts, and_from, not-true}
use Rattle.std.proofs.lemmas.Bool.Decides.{nat_tests}
use Rattle.std.proofs.Common.{◌+◌, ◌<◌, length, drop, get_or}
use Rattle.std.proofs.lemmas.List.{drop_more}
use Rattle.rr_model.specs.Rising.{Rises, with_value}
use Rattle.rr_model.specs.Rule.Validity.{is_absent}
use Rattle.rr_model.specs.Text.RuleValues.{◌>>=◌, pieces, rising_values, list_of}
use Rattle.rr_model.specs.declared.refusal.Refusal.{Refusal}
use Rattle.rr_model.specs.declared.refusal.Refusal.TheVariants.{BadRule}
use Rattle.rr_model.proofs.RisingSetLemmas.{Rises-tail}
use Rattle.rr_model.specs.Text.Written.{lines_of}
use Rattle.rr_text.proofs.WrittenByteLemmas.{has_no, list_all-weaker, list_all-both}

-- ---- joined texts

pub pieces-none : (b : ℕ) (text : List ℕ) → has_no b text ≡ true → pieces b text ≡ text ∷ []
pieces-none b [] h = refl
pieces-none b (c ∷ cs) h =
    let parts = and_parts (not (c == b)) (has_no b cs) h in
    rw (not-true (c == b) parts.0, pieces-none b cs parts.1) refl

pieces-first : (b : ℕ) (text rest : List ℕ) → has_no b text ≡ true → pieces b (text ++ b ∷ rest) ≡ text ∷ pieces b rest
pieces-first b [] rest h = rw (itself b) refl
  where
    itself : (n : ℕ) → (n == n) ≡ true
    itself n = grind (arith, nat_tests)
pieces-first b (c ∷ cs) rest h =
    let parts = and_parts (not (c == b)) (has_no b cs) h in
    rw (not-true (c == b) parts.0, pieces-first b cs rest parts.1) refl

-- texts without the byte, joined by it, are the pieces between it
pub pieces-joined : (b : ℕ) (text : List ℕ) (texts : List (List ℕ)) → AllByRecursion (λ (t : List ℕ). has_no b t ≡ true) (text ∷ texts)
    → pieces b (join_with_byte b (text ∷ texts)) ≡ text ∷ texts
pieces-joined b text [] h = pieces-none b text h.0
pieces-joined b text (next ∷ texts) h =
    pieces-first b text (join_with_byte b (next ∷ texts)) h.0 ∙ ap (λ (ts : List (List ℕ)). text ∷ ts) (pieces-joined b next texts h.1)

-- ---- rising values

abbrev pub IsTransitive : {X : Type 0} → (X → X → Bool) → Type 0
IsTransitive {X} below = (a b c : X) → below a b ≡ true → below b c ≡ true → below a c ≡ true

module _ {X : Type 0} (below : X → X → Bool) where
  -- a value above all others goes last
  pub with_value-last : (xs : List X) (x : X) → list_all (λ y. below y x) xs ≡ true → with_value below xs x ≡ xs ++ x ∷ []
  with_value-last [] x h = refl
  with_value-last (y ∷ ys) x h =
      let parts = and_parts (below y x) (list_all (λ z. below z x) ys) h in
      rw (parts.0, with_value-last ys x parts.1) refl

  module _ (transitive : IsTransitive below) where
    -- what is below a value and the value itself are below a greater one
    pub below-next : (xs : List X) (x next : X) → list_all (λ y. below y x) xs ≡ true → below x next ≡ true
        → list_all (λ y. below y next) (xs ++ x ∷ []) ≡ true
    below-next xs x next h above =
        list_all-both (λ y. below y next) xs (x ∷ []) (list_all-weaker (λ y. below y x) (λ y. below y next) (λ y e. transitive y x next e above) xs h)
        (and_from (below x next) true above refl)

    -- values from a list, one after the other, put into one that they rise from
    abbrev pub IsAbove : List X → List X → Type 0
    IsAbove xs [] = Unit {0}
    IsAbove xs (y ∷ ys) = list_all (λ x. below x y) xs ≡ true

    pub IsAbove-next : (xs : List X) (y : X) (ys : List X) → IsAbove xs (y ∷ ys) → Rises below (y ∷ ys) → IsAbove (xs ++ y ∷ []) ys
    IsAbove-next xs y [] h r = tt
    IsAbove-next xs y (z ∷ zs) h r = below-next xs y z h r.0

    module _ (judged : List ℕ → Result X Refusal) (text_of : X → List ℕ) where
      placed-rising : (done xs : List X) → AllByRecursion (λ (x : X). judged (text_of x) ≡ Ok x) xs → Rises below xs → IsAbove done xs
          → rising_values below judged done (map text_of xs) ≡ Ok (done ++ xs)
      placed-rising done [] h r above = ap Ok (sym (append-nil done))
      placed-rising done (x ∷ xs) h r above =
          ap (λ (m : Result X Refusal). m >>= λ y. rising_values below judged (with_value below done y) (map text_of xs)) h.0
          ∙ ap (λ (l : List X). rising_values below judged l (map text_of xs)) (with_value-last done x above)
          ∙ placed-rising (done ++ x ∷ []) xs h.1 (Rises-tail below x xs r) (IsAbove-next done x xs above r)
          ∙ ap Ok (append_assoc done (x ∷ []) xs)

      -- how a value is written: of the form, without commas, and read back
      abbrev pub IsReadBack : (List ℕ → Bool) → X → Type 0
      IsReadBack has_form x = (has_form (text_of x) ≡ true) × (has_no 44 (text_of x) ≡ true) × (judged (text_of x) ≡ Ok x)

      forms : (has_form : List ℕ → Bool) (xs : List X) → AllByRecursion (IsReadBack has_form) xs → list_all has_form (map text_of xs) ≡ true
      forms has_form [] h = refl
      forms has_form (x ∷ xs) h = and_from (has_form (text_of x)) (list_all has_form (map text_of xs)) h.0.0 (forms has_form xs h.1)

      no_commas : (has_form : List ℕ → Bool) (xs : List X) → AllByRecursion (IsReadBack has_form) xs
          → AllByRecursion (λ (t : List ℕ). has_no 44 t ≡ true) (map text_of xs)
      no_commas has_form [] h = tt
      no_commas has_form (x ∷ xs) h = (h.0.1, no_commas has_form xs h.1)

      each_read : (has_form : List ℕ → Bool) (xs : List X) → AllByRecursion (IsReadBack has_form) xs
          → AllByRecursion (λ (x : X). judged (text_of x) ≡ Ok x) xs
      each_read has_form [] h = tt
      each_read has_form (x ∷ xs) h = (h.0.2, each_read has_form xs h.1)

      -- A rising list of at least one value is read back.
      pub list_of-written : (line : ℕ) (has_form : List ℕ → Bool) (xs : List X) → is_absent xs ≡ false → AllByRecursion (IsReadBack has_form) xs
          → Rises below xs → list_of line has_form below judged (join_with_byte 44 (map text_of xs)) ≡ Ok xs
      list_of-written line has_form [] some h r = absurd (cc)
      list_of-written line has_form (x ∷ xs) some h r =
          let split = pieces-joined 44 (text_of x) (map text_of xs) (no_commas has_form (x ∷ xs) h) in
          ap (λ (ts : List (List ℕ)). if list_all has_form ts then rising_values below judged [] ts else Err (BadRule line)) split
          ∙ ap (λ (b : Bool). if b then rising_values below judged [] (map text_of (x ∷ xs)) else Err (BadRule line)) (forms has_form (x ∷ xs) h)
          ∙ placed-rising [] (x ∷ xs) (each_read has_form (x ∷ xs) h) r refl

-- ---- what is written value by value

-- what is written so far and the lines of the values that are left are the whole text, also after one value more
pub one_written : {X : Type 0} (f : X → List ℕ) (out next all : List ℕ) (xs : List X) (i : ℕ) (x d : X) → i < length xs → x ≡ get_or xs i d
    → out ++ lines_of f (drop i xs) ≡ all → next ≡ out ++ f x → next ++ lines_of f (drop (i + 1) xs) ≡ all
one_written f out next all xs i x d l is so_far e =
    let left = drop_more xs i d l ∙ ap (λ y. y ∷ drop (i + 1) xs) (sym is) in
    ap (λ o. o ++ lines_of f (drop (i + 1) xs)) e ∙ append_assoc out (f x) (lines_of f (drop (i + 1) xs))
    ∙ ap (λ ys. out ++ lines_of f ys) (sym left) ∙ so_far
