-- What is printed of a title is visible characters and escaped bytes.
use Rattle.std.proofs.Common.{◌≡◌, append_assoc, ℕ, zero, suc, ◌+◌, ◌-◌, ◌*◌, ◌<◌, ◌≤◌, Bool, true, false, cond, if◌then◌else◌, List, [], ◌∷◌, ◌++◌, length, get_or, take, drop, refl, sym, ap, subst, ◌∙◌, arith}
use Rattle.std.specs.Prelude.{◌&&◌}
use Rattle.std.proofs.lemmas.List.{at_drop_more, length-drop}
use Rattle.std.proofs.Math.Seq.{take-length}
use native.Mathlib.Numerals.{unary_clauses}
use Rattle.rr_title.specs.Title.{IsEscape, IsPushed, IsSafeText, IsVisibleCharacter, TitlesAreSafe, bytes_left, escaped_byte, four_bytes, front_length, is_more, is_plain, lies, three_bytes, title_by, title_from, two_bytes, visible_bytes}

-- the bytes of a character are printed, and then the rest
taken : (n : ℕ) (bs : List ℕ) → title_from n bs ≡ take n bs ++ title_from 0 (drop n bs)
taken zero bs = refl
taken (suc n) [] = refl
taken (suc n) (b ∷ bs) = ap (λ (xs : List ℕ). b ∷ xs) (taken n bs)

-- ---- a character is told by its own bytes

-- how many bytes it has if two tests hold
bytes_by : (m t : Bool) (k n : ℕ) → (if m then (if t then suc k else 0) else 0) ≡ suc n → n ≡ k
bytes_by true true k n h = omega (arith, h)
bytes_by true false k n h = absurd (omega (arith, h))
bytes_by false t k n h = absurd (omega (arith, h))

two : (a : ℕ) (bs : List ℕ) (n : ℕ) → two_bytes a bs ≡ suc n → two_bytes a (take n bs) ≡ suc (length (take n bs))
two a [] n h = absurd (omega (arith, h))
two a (b ∷ bs) n h =
    let e : n ≡ 1 = bytes_by (is_more b) _ 1 n h in
    subst (λ (k : ℕ). two_bytes a (take k (b ∷ bs)) ≡ suc (length (take k (b ∷ bs)))) (sym e) (h ∙ ap suc e)

three : (a : ℕ) (bs : List ℕ) (n : ℕ) → three_bytes a bs ≡ suc n → three_bytes a (take n bs) ≡ suc (length (take n bs))
three a [] n h = absurd (omega (arith, h))
three a (b ∷ []) n h = absurd (omega (arith, h))
three a (b ∷ c ∷ bs) n h =
    let e : n ≡ 2 = bytes_by (is_more b && is_more c) _ 2 n h in
    subst (λ (k : ℕ). three_bytes a (take k (b ∷ c ∷ bs)) ≡ suc (length (take k (b ∷ c ∷ bs)))) (sym e) (h ∙ ap suc e)

four : (a : ℕ) (bs : List ℕ) (n : ℕ) → four_bytes a bs ≡ suc n → four_bytes a (take n bs) ≡ suc (length (take n bs))
four a [] n h = absurd (omega (arith, h))
four a (b ∷ []) n h = absurd (omega (arith, h))
four a (b ∷ c ∷ []) n h = absurd (omega (arith, h))
four a (b ∷ c ∷ d ∷ bs) n h =
    let e : n ≡ 3 = bytes_by (is_more b && (is_more c && is_more d)) _ 3 n h in
    subst (λ (k : ℕ). four_bytes a (take k (b ∷ c ∷ d ∷ bs)) ≡ suc (length (take k (b ∷ c ∷ d ∷ bs)))) (sym e) (h ∙ ap suc e)

fits : (b : ℕ) (bs : List ℕ) (n : ℕ) → front_length b bs ≡ suc n → front_length b (take n bs) ≡ suc (length (take n bs))
unfolding front_length
fits b bs n h = by (is_plain b) (lies 192 223 b) (lies 224 239 b) (lies 240 247 b) h
  where
    by : (p q r s : Bool)
        → (if p then 1 else (if q then two_bytes b bs else (if r then three_bytes b bs else (if s then four_bytes b bs else 0)))) ≡ suc n
        → (if p then 1
        else (if q then two_bytes b (take n bs) else (if r then three_bytes b (take n bs) else (if s then four_bytes b (take n bs) else 0))))
        ≡ suc (length (take n bs))
    by true q r s e =
        let none : n ≡ 0 = omega (arith, e) in
        sym (ap (λ (k : ℕ). suc (length (take k bs))) none)
    by false true r s e = two b bs n e
    by false false true s e = three b bs n e
    by false false false true e = four b bs n e
    by false false false false e = absurd (omega (arith, e))

-- ---- a title

safe_from : (m : ℕ) (bs : List ℕ) → length bs ≤ m → IsSafeText (title_from 0 bs)
safe_from m [] h = IsSafeText.none
safe_from zero (b ∷ bs) h = absurd (omega (arith, h))
safe_from (suc m) (b ∷ bs) h = by (λ n. safe_from m (drop n bs) (omega (arith, h, length-drop n bs))) (front_length b bs) refl
  where
    by : ((n : ℕ) → IsSafeText (title_from 0 (drop n bs))) → (n : ℕ) → front_length b bs ≡ n → IsSafeText (title_by n b (λ k. title_from k bs))
    by more zero e = IsSafeText.escape (escaped_byte b) (title_from 0 bs) (b, refl) (more 0)
    by more (suc n) e =
        subst IsSafeText (ap (λ (xs : List ℕ). b ∷ xs) (sym (taken n bs)))
        (IsSafeText.character (b ∷ take n bs) (title_from 0 (drop n bs)) (fits b bs n e) (more n))

pub titles_are_safe : TitlesAreSafe
titles_are_safe title = safe_from (length title) title (omega arith)

-- ---- one byte more

next : (left b : ℕ) (bs : List ℕ) → title_from left (b ∷ bs) ≡ title_by (bytes_left left b bs) b (λ n. title_from n bs)
next zero b bs = refl
next (suc n) b bs = refl

pub left_none : (left b : ℕ) (bs : List ℕ) → left ≡ 0 → front_length b bs ≡ bytes_left left b bs
left_none zero b bs e = refl
left_none (suc n) b bs e = absurd (omega (arith, e))

pub left_some : (left b : ℕ) (bs : List ℕ) → (left ≡ 0 → ⊥) → left ≡ bytes_left left b bs
left_some zero b bs some = absurd (some refl)
left_some (suc n) b bs some = refl

pub pushed_escape : (n b : ℕ) (old new : List ℕ) → n ≡ 0 → new ≡ old ++ escaped_byte b → IsPushed n b 0 old new
pushed_escape zero b old new none e more = ap (λ (xs : List ℕ). xs ++ more 0) e ∙ append_assoc old (escaped_byte b) (more 0)
pushed_escape (suc n) b old new none e more = absurd (omega (arith, none))

pub pushed_byte : (n b : ℕ) (old new : List ℕ) → (n ≡ 0 → ⊥) → new ≡ old ++ b ∷ [] → IsPushed n b (n - 1) old new
pushed_byte zero b old new some e more = absurd (some refl)
pushed_byte (suc n) b old new some e more = simp unary_clauses (ap (λ (xs : List ℕ). xs ++ more n) e ∙ append_assoc old (b ∷ []) (more n))

-- the byte at an index is put
pub put_at : (left left' : ℕ) (title old new : List ℕ) (i of : ℕ) → i < length title → of ≡ bytes_left left (get_or title i 0) (drop (i + 1) title)
    → IsPushed of (get_or title i 0) left' old new → new ++ title_from left' (drop (i + 1) title) ≡ old ++ title_from left (drop i title)
put_at left left' title old new i of below is pushed =
    let b = get_or title i 0 in
    let bs = drop (i + 1) title in
    pushed (λ n. title_from n bs) ∙ ap (λ n. old ++ title_by n b (λ k. title_from k bs)) is ∙ ap (λ (xs : List ℕ). old ++ xs) (sym (next left b bs))
    ∙ sym (at_drop_more (λ (xs : List ℕ). old ++ title_from left xs) title i 0 below)

-- what is left of a list from an index on, taken whole
pub whole_rest : (i : ℕ) (xs : List ℕ) → take (length xs - i) (drop i xs) ≡ drop i xs
whole_rest i xs = subst (λ n. take n (drop i xs) ≡ drop i xs) (length-drop i xs) (take-length (drop i xs))
