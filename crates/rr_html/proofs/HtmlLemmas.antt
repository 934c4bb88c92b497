-- What stands of a text in a page has no markup.
use Rattle.std.proofs.Common.{◌≡◌, ℕ, Bool, true, false, if◌then◌else◌, List, [], ◌∷◌, ◌++◌, refl, arith}
use Rattle.std.specs.Prelude.{◌==◌, ◌&&◌, not, codes}
use Rattle.std.specs.List.{All, Contains, list_all}
use Rattle.std.proofs.lemmas.List.Elements.{All-append, All-cons, All-nil}
use Rattle.rr_html.specs.Markup.{IsPageText, PagesAreClean, html_byte, html_text, is_clean, is_kept, reference, references}

abbrev IsClean : List ℕ → Type 0
IsClean bs = All (λ b. is_clean b ≡ true) bs

left : (a b : Bool) → (a && b) ≡ true → a ≡ true
left true b h = refl
left false b h = absurd (cc)

right : (a b : Bool) → (a && b) ≡ true → b ≡ true
right true b h = h
right false b h = absurd (cc)

tested : (bs : List ℕ) → list_all is_clean bs ≡ true → IsClean bs
tested [] h = All-nil (λ b. is_clean b ≡ true)
tested (b ∷ bs) h =
    All-cons (λ c. is_clean c ≡ true) b bs (left (is_clean b) (list_all is_clean bs) h) (tested bs (right (is_clean b) (list_all is_clean bs) h))

-- ---- references

clean_by : (p q r s t u : Bool)
    → IsClean (if p then codes "&amp;"
    else (if q then codes "&lt;" else (if r then codes "&gt;" else (if s then codes "&quot;" else (if t then codes "&#39;" else (if u then codes "&#10;" else codes "&#xFFFD;"))))))
clean_by true q r s t u = tested (codes "&amp;") refl
clean_by false true r s t u = tested (codes "&lt;") refl
clean_by false false true s t u = tested (codes "&gt;") refl
clean_by false false false true t u = tested (codes "&quot;") refl
clean_by false false false false true u = tested (codes "&#39;") refl
clean_by false false false false false true = tested (codes "&#10;") refl
clean_by false false false false false false = tested (codes "&#xFFFD;") refl

listed_by : (p q r s t u : Bool)
    → Contains references (if p then codes "&amp;"
    else (if q then codes "&lt;" else (if r then codes "&gt;" else (if s then codes "&quot;" else (if t then codes "&#39;" else (if u then codes "&#10;" else codes "&#xFFFD;"))))))
listed_by true q r s t u = (0, omega arith, refl)
listed_by false true r s t u = (1, omega arith, refl)
listed_by false false true s t u = (2, omega arith, refl)
listed_by false false false true t u = (3, omega arith, refl)
listed_by false false false false true u = (4, omega arith, refl)
listed_by false false false false false true = (5, omega arith, refl)
listed_by false false false false false false = (6, omega arith, refl)

-- ---- texts

clean_byte : (b : ℕ) → IsClean (html_byte b)
clean_byte b = by (is_kept b) refl
  where
    by : (k : Bool) → is_kept b ≡ k → IsClean (if k then b ∷ [] else reference b)
    by true e = All-cons (λ c. is_clean c ≡ true) b [] (left (is_clean b) (not (b == 38)) e) (All-nil (λ c. is_clean c ≡ true))
    by false e = clean_by (b == 38) (b == 60) (b == 62) (b == 34) (b == 39) (b == 10)

clean : (text : List ℕ) → IsClean (html_text text)
clean [] = All-nil (λ b. is_clean b ≡ true)
clean (b ∷ bs) = All-append (λ c. is_clean c ≡ true) (html_byte b) (html_text bs) (clean_byte b) (clean bs)

pieces : (text : List ℕ) → IsPageText (html_text text)
pieces [] = IsPageText.none
pieces (b ∷ bs) = by (pieces bs) (is_kept b) refl
  where
    by : IsPageText (html_text bs) → (k : Bool) → is_kept b ≡ k → IsPageText ((if k then b ∷ [] else reference b) ++ html_text bs)
    by more true e = IsPageText.byte b (html_text bs) e more
    by more false e = IsPageText.mark (reference b) (html_text bs) (listed_by (b == 38) (b == 60) (b == 62) (b == 34) (b == 39) (b == 10)) more

pub pages_are_clean : PagesAreClean
pages_are_clean = record { clean = clean; pieces = pieces }
