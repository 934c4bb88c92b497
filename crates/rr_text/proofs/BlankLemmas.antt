-- Blanks around a text are dropped alike before and after each byte is put in another case.
use Rattle.std.proofs.Common.{◌≡◌, ℕ, ◌-◌, true, false, cond, List, [], ◌∷◌, ◌++◌, reverse, length, drop, map, refl, sym, ap, ◌∙◌, arith}
use Rattle.std.specs.Prelude.{nat_lt}
use Rattle.std.specs.Char.{is_ascii_lowercase, to_ascii_uppercase}
use Rattle.std.specs.List.{list_any, prefix_len, take_while}
use Rattle.std.specs.Str.{str_to_ascii_uppercase}
use Rattle.std.proofs.lemmas.Bool.{or_parts}
use Rattle.std.proofs.lemmas.Bool.Decides.{nat_tests}
use Rattle.std.proofs.lemmas.List.{take-map, drop-map, length-map, map-append, reverse-append}
use Rattle.std.proofs.lemmas.List.Folds.{length-prefix_len}
use Rattle.rr_model.specs.Text.Rules.{is_blank, trim_start, trim_end, line_value}

-- bytes that stay blank or not
module _ (f : ℕ → ℕ) (same : (b : ℕ) → is_blank (f b) ≡ is_blank b) where
  prefix_len-mapped : (text : List ℕ) → prefix_len is_blank (map f text) ≡ prefix_len is_blank text
  prefix_len-mapped [] = refl
  prefix_len-mapped (b ∷ bs) = rw (same b, prefix_len-mapped bs) refl

  blanks-mapped : (text : List ℕ) → length (take_while is_blank (map f text)) ≡ length (take_while is_blank text)
  blanks-mapped text =
      length-prefix_len is_blank (map f text) ∙ prefix_len-mapped text ∙ sym (length-prefix_len is_blank text)

  reverse-mapped : (text : List ℕ) → reverse (map f text) ≡ map f (reverse text)
  reverse-mapped [] = refl
  reverse-mapped (b ∷ bs) =
      reverse-append (f b ∷ []) (map f bs)
      ∙ ap (λ (cs : List ℕ). cs ++ f b ∷ []) (reverse-mapped bs)
      ∙ sym (map-append f (reverse bs) (b ∷ []))
      ∙ ap (map f) (sym (reverse-append (b ∷ []) bs))

  trim_start-mapped : (text : List ℕ) → trim_start (map f text) ≡ map f (trim_start text)
  trim_start-mapped text =
      ap (λ n. drop n (map f text)) (blanks-mapped text) ∙ drop-map f (length (take_while is_blank text)) text

  trim_end-mapped : (text : List ℕ) → trim_end (map f text) ≡ map f (trim_end text)
  trim_end-mapped text =
      let blanks : length (take_while is_blank (reverse (map f text))) ≡ length (take_while is_blank (reverse text)) =
      ap (λ (cs : List ℕ). length (take_while is_blank cs)) (reverse-mapped text) ∙ blanks-mapped (reverse text) in
      rw (length-map text f, blanks)
      (take-map f (length text - length (take_while is_blank (reverse text))) text)

  pub trim-mapped : (text : List ℕ) → trim_end (trim_start (map f text)) ≡ map f (trim_end (trim_start text))
  trim-mapped text = ap trim_end (trim_start-mapped text) ∙ trim_end-mapped (trim_start text)

is_blank-capital : (b : ℕ) → is_blank (to_ascii_uppercase b) ≡ is_blank b
is_blank-capital b = grind (arith, nat_tests)

pub trimmed_capitals : (text : List ℕ) → str_to_ascii_uppercase (trim_end (trim_start text)) ≡ line_value text
unfolding line_value
trimmed_capitals text = sym (trim-mapped to_ascii_uppercase is_blank-capital text)

-- a text without a small letter is in capitals
pub in_capitals : (text : List ℕ) → list_any is_ascii_lowercase text ≡ false → str_to_ascii_uppercase text ≡ text
in_capitals [] h = refl
in_capitals (b ∷ bs) h =
    let p = or_parts (is_ascii_lowercase b) (list_any is_ascii_lowercase bs) h in
    rw (large b p.0, in_capitals bs p.1) refl
  where
    large : (c : ℕ) → is_ascii_lowercase c ≡ false → to_ascii_uppercase c ≡ c
    large c e = elim (nat_lt c 97) as (λ x. nat_lt c 97 ≡ x → cond x c (cond (nat_lt c 123) (c - 32) c) ≡ c) [
      | true ↦ λ f. refl
      | false ↦ λ f. elim (nat_lt c 123) as (λ x. nat_lt c 123 ≡ x → cond x (c - 32) c ≡ c) [
        | true ↦ λ g. absurd (grind (arith, nat_tests, e, f, g))
        | false ↦ λ g. refl
      ] refl
    ] refl
