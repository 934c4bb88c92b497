-- Where the name of a zone's component may stand: at its first letter alone.
use Rattle.std.proofs.Common.{◌≡◌, ◌∙◌, ◌==◌, ℕ, zero, suc, ◌+◌, ◌<◌, Bool, true, false, ◌||◌, List, [], ◌∷◌, length, drop, get_or, None, Some, refl, sym, ap, arith}
use Rattle.std.specs.Char.{to_ascii_lowercase}
use Rattle.std.proofs.lemmas.Bool.{false_from_ne_true, or_parts}
use Rattle.std.proofs.lemmas.Bool.Decides.{nat_tests}
use Rattle.std.proofs.lemmas.List.{at_drop_all, at_drop_more}
use Rattle.memchr.specs.Find.{IsFirstByte, is_byte2}
use Rattle.rr_zone.specs.Local.{begins_zone, mentions_zone}

other_letter : (b : ℕ) → is_byte2 86 118 b ≡ false → (to_ascii_lowercase b == 118) ≡ false
other_letter b h =
    let n = or_parts (b == 86) (b == 118) h in
    let v = n.0 in
    let w = n.1 in
    grind (arith, nat_tests, v, w)

-- a byte that is no V begins no such name
passed_over : (b : ℕ) (bs : List ℕ) → is_byte2 86 118 b ≡ false → mentions_zone (b ∷ bs) ≡ mentions_zone bs
passed_over b bs h = rw (other_letter b h) refl

-- so are all before the first V passed over
skipped : (text : List ℕ) (k : ℕ) → ((j : ℕ) → j < k → j < length text → is_byte2 86 118 (get_or text j 0) ≡ false)
    → mentions_zone text ≡ mentions_zone (drop k text)
skipped text zero h = refl
skipped [] (suc k) h = refl
skipped (b ∷ bs) (suc k) h =
    passed_over b bs (h 0 (omega arith) (omega arith)) ∙ skipped bs k (λ j below within. h (suc j) (omega (arith, below)) (omega (arith, within)))

-- without any the name stands nowhere
pub no_letter : (text : List ℕ) → IsFirstByte (is_byte2 86 118) text None → mentions_zone text ≡ false
no_letter text nowhere =
    skipped text (length text) (λ j below within. false_from_ne_true (is_byte2 86 118 (get_or text j 0)) (nowhere j (omega arith) within))
    ∙ at_drop_all mentions_zone text (length text) (omega arith)

-- otherwise it stands at the first of them, or behind that
pub at_letter : (text : List ℕ) (k : ℕ) → IsFirstByte (is_byte2 86 118) text (Some k)
    → mentions_zone text ≡ (begins_zone (drop k text) || mentions_zone (drop (k + 1) text))
at_letter text k first =
    skipped text k (λ j below within. false_from_ne_true (is_byte2 86 118 (get_or text j 0)) (first.0.before j (omega arith) below))
    ∙ at_drop_more mentions_zone text k 0 first.0.high
    ∙ ap (λ (t : List ℕ). begins_zone t || mentions_zone (drop (k + 1) text)) (sym (at_drop_more (λ (t : List ℕ). t) text k 0 first.0.high))

-- it stands there
pub found_here : (text all : List ℕ) (k : ℕ) → IsFirstByte (is_byte2 86 118) text (Some k) → begins_zone (drop k text) ≡ true
    → mentions_zone text ≡ mentions_zone all → true ≡ mentions_zone all
found_here text all k first here so_far =
    ap (λ (b : Bool). b || mentions_zone (drop (k + 1) text)) (sym here) ∙ sym (at_letter text k first) ∙ so_far

-- it does not
pub found_behind : (text all : List ℕ) (k : ℕ) → IsFirstByte (is_byte2 86 118) text (Some k) → begins_zone (drop k text) ≡ false
    → mentions_zone text ≡ mentions_zone all → mentions_zone (drop (k + 1) text) ≡ mentions_zone all
found_behind text all k first here so_far =
    ap (λ (b : Bool). b || mentions_zone (drop (k + 1) text)) (sym here) ∙ sym (at_letter text k first) ∙ so_far
