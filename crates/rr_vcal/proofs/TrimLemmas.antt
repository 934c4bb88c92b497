-- Blanks around a text, and texts that have none.
use Rattle.std.proofs.Common.{◌≡◌, ℕ, ◌-◌, ◌<◌, true, false, List, [], ◌∷◌, ◌++◌, length, reverse, refl, ap, ◌∙◌, arith}
use Rattle.std.specs.List.{list_all, take_while}
use Rattle.std.proofs.lemmas.Bool.{and_parts, and_from}
use Rattle.std.proofs.lemmas.List.{take_all, reverse-append, length-reverse}
use Rattle.rr_model.specs.Rule.Validity.{is_absent}
use Rattle.rr_model.specs.Text.Lines.{begins_blank}
use Rattle.rr_model.specs.Text.Rules.{is_blank, trim_start, trim_end}
use Rattle.rr_text.proofs.WrittenByteLemmas.{list_all-both}
use Rattle.rr_vcal.proofs.ByteLemmas.{is_solid, no_blank}

-- a word without blanks, which is not empty
abbrev pub IsSolid : List ℕ → Type 0
IsSolid w = (is_absent w ≡ false) × (list_all is_solid w ≡ true)

none_taken : (text : List ℕ) → begins_blank text ≡ false → length (take_while is_blank text) ≡ 0
none_taken [] h = refl
none_taken (b ∷ bs) h = rw h refl

pub trimmed_start : (text : List ℕ) → begins_blank text ≡ false → trim_start text ≡ text
trimmed_start text h = rw (none_taken text h) refl

pub trimmed_end : (text : List ℕ) → begins_blank (reverse text) ≡ false → trim_end text ≡ text
trimmed_end text h = rw (none_taken (reverse text) h) (take_all (length text - 0) text (omega arith))

solid-reverse : (xs : List ℕ) → list_all is_solid xs ≡ true → list_all is_solid (reverse xs) ≡ true
solid-reverse [] h = refl
solid-reverse (x ∷ xs) h =
    let parts = and_parts (is_solid x) (list_all is_solid xs) h in
    ap (list_all is_solid) (reverse-append (x ∷ []) xs)
    ∙ list_all-both is_solid (reverse xs) (x ∷ []) (solid-reverse xs parts.1) (and_from (is_solid x) true parts.0 refl)

pub begins-solid : (xs ys : List ℕ) → 0 < length xs → list_all is_solid xs ≡ true → begins_blank (xs ++ ys) ≡ false
begins-solid [] ys some h = absurd (omega arith)
begins-solid (x ∷ xs) ys some h = no_blank x (and_parts (is_solid x) (list_all is_solid xs) h).0

pub present : (w : List ℕ) → is_absent w ≡ false → 0 < length w
present [] h = absurd (cc)
present (b ∷ bs) h = omega arith

-- a text that ends with a word has no blank at its end
pub ends-solid : (xs w : List ℕ) → IsSolid w → begins_blank (reverse (xs ++ w)) ≡ false
ends-solid xs w h =
    ap begins_blank (reverse-append xs w)
    ∙ begins-solid (reverse w) (reverse xs) (omega (arith, length-reverse w, present w h.0)) (solid-reverse w h.1)
