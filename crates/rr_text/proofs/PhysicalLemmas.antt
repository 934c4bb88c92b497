-- A text is cut after its first physical line.
use Rattle.std.proofs.Common.{◌≡◌, ℕ, ◌+◌, ◌-◌, ◌<◌, ◌≤◌, ◌==◌, ◌&&◌, not, Bool, true, false, if◌then◌else◌, List, [], ◌∷◌, length, take, drop, refl, sym}
use Rattle.std.proofs.Common.{◌++◌, ap, ◌∙◌, append-nil, take-append-drop, eqb-true, inl, inr, arith, suc, zero, Option, Some, None, rules}
use Rattle.std.specs.Prelude.{codes, nat_lt, nat_le}
use Rattle.std.specs.List.{position, position_or_len, onto_first}
use Rattle.std.specs.Str.{bytes_eq}
use Rattle.std.proofs.lemmas.Grind.{common_steps}
use Rattle.std.proofs.lemmas.Bool.{false≢true}
use Rattle.std.proofs.lemmas.Bool.Decides.{nat_tests}
use Rattle.std.proofs.lemmas.List.{take_rest}
use Rattle.std.proofs.Math.Seq.{drop-length}
use Rattle.rr_model.specs.Rule.Validity.{is_absent}
use Rattle.rr_model.specs.Text.Lines.{feeds_next, physical_lines}
use Rattle.rr_text.specs.Physical.{without_return, EndsWithFeed, IsCutAt}

-- the same, byte by byte
cut_return : List ℕ → List ℕ
cut_return [] = []
cut_return (b ∷ []) = if b == 13 then [] else b ∷ []
cut_return (b ∷ c ∷ cs) = b ∷ cut_return (c ∷ cs)

abbrev is_feed : ℕ → Bool
is_feed b = b == 10

-- the lines with one more byte before them
abbrev step : ℕ → Bool → List (List ℕ) → List (List ℕ)
step b next lines = if b == 10 then [] ∷ lines else (if (b == 13) && next then lines else onto_first b lines)

physical_lines-cons : (b : ℕ) (bs : List ℕ) → physical_lines (b ∷ bs) ≡ step b (feeds_next bs) (physical_lines bs)
unfolding physical_lines
physical_lines-cons b bs = refl

-- ---- a line that a line feed ends

step-feed : (b : ℕ) (next : Bool) (lines : List (List ℕ)) → (b == 10) ≡ true → step b next lines ≡ [] ∷ lines
step-feed b next lines e = rw e refl

step-return : (b : ℕ) (lines : List (List ℕ)) → (b == 10) ≡ false → step b true ([] ∷ lines) ≡ cut_return (b ∷ []) ∷ lines
unfolding cut_return
step-return b lines e = rw e (by (b == 13))
  where
    by : (r : Bool) → (if r && true then [] ∷ lines else onto_first b ([] ∷ lines)) ≡ (if r then [] else b ∷ []) ∷ lines
    by true = refl
    by false = refl

step-more : (b c : ℕ) (cs : List ℕ) (lines : List (List ℕ)) → (b == 10) ≡ false → step b false (cut_return (c ∷ cs) ∷ lines) ≡ cut_return (b ∷ c ∷ cs) ∷ lines
unfolding cut_return
step-more b c cs lines e = rw e (by (b == 13))
  where
    by : (r : Bool) → (if r && false then cut_return (c ∷ cs) ∷ lines else onto_first b (cut_return (c ∷ cs) ∷ lines)) ≡ (b ∷ cut_return (c ∷ cs)) ∷ lines
    by true = refl
    by false = refl

-- ---- a line that the end of the text ends

step-last : (b : ℕ) (lines : List (List ℕ)) → (b == 10) ≡ false → step b false lines ≡ onto_first b lines
step-last b lines e = rw e (by (b == 13))
  where
    by : (r : Bool) → (if r && false then lines else onto_first b lines) ≡ onto_first b lines
    by true = refl
    by false = refl

-- places

place-feed : (b : ℕ) (bs : List ℕ) → (b == 10) ≡ true → position_or_len is_feed (b ∷ bs) ≡ 0
place-feed b bs e = rw e refl

place-more : (b : ℕ) (bs : List ℕ) → (b == 10) ≡ false → position_or_len is_feed (b ∷ bs) ≡ suc (position_or_len is_feed bs)
place-more b bs e = rw e (omega arith)

feeds-not : (b : ℕ) (bs : List ℕ) → (b == 10) ≡ false → feeds_next (b ∷ bs) ≡ false
feeds-not b bs e = e

physical_lines-nil : physical_lines [] ≡ []
unfolding physical_lines
physical_lines-nil = refl

-- ---- a line that the end of the text ends

-- no line feed stands in the text, which is one line, or none if it is empty
abbrev IsOneLine : List ℕ → Type 0
IsOneLine text = length text ≤ position_or_len is_feed text → physical_lines text ≡ (if is_absent text then [] else text ∷ [])

one_line-step : (b : ℕ) (bs : List ℕ) → IsOneLine bs → IsOneLine (b ∷ bs)
one_line-step b bs more h = by (b == 10) refl
  where
    shorter : (b == 10) ≡ false → length bs ≤ position_or_len is_feed bs
    shorter e = omega (arith, h, place-more b bs e)

    last : (bs : List ℕ) → length bs ≤ position_or_len is_feed bs → (b == 10) ≡ false → physical_lines bs ≡ (if is_absent bs then [] else bs ∷ [])
        → physical_lines (b ∷ bs) ≡ (b ∷ bs) ∷ []
    last [] h e more = physical_lines-cons b [] ∙ step-last b (physical_lines []) e ∙ ap (onto_first b) physical_lines-nil
    last (c ∷ cs) h e more = next (c == 10) refl
      where
        next : (u : Bool) → (c == 10) ≡ u → physical_lines (b ∷ c ∷ cs) ≡ (b ∷ c ∷ cs) ∷ []
        next true f = absurd (omega (arith, h, place-feed c cs f))
        next false f =
            physical_lines-cons b (c ∷ cs) ∙ ap (λ n. step b n (physical_lines (c ∷ cs))) (feeds-not c cs f)
            ∙ step-last b (physical_lines (c ∷ cs)) e ∙ ap (onto_first b) more

    by : (t : Bool) → (b == 10) ≡ t → physical_lines (b ∷ bs) ≡ (b ∷ bs) ∷ []
    by true e = absurd (omega (arith, h, place-feed b bs e))
    by false e = last bs (shorter e) e (more (shorter e))

one_line : (text : List ℕ) → IsOneLine text
one_line [] h = physical_lines-nil
one_line (b ∷ bs) h = one_line-step b bs (one_line bs) h

-- ---- a line that a line feed ends

-- the first line of the text ends at its first line feed
abbrev HasFirst : List ℕ → Type 0
HasFirst text =
    (k : ℕ) → position_or_len is_feed text ≡ k → k < length text → physical_lines text ≡ cut_return (take k text) ∷ physical_lines (drop (suc k) text)

first-more : (b c : ℕ) (cs : List ℕ) → (b == 10) ≡ false → HasFirst (c ∷ cs) → (k : ℕ) → position_or_len is_feed (c ∷ cs) ≡ k → k < length (c ∷ cs)
    → physical_lines (b ∷ c ∷ cs) ≡ cut_return (b ∷ take k (c ∷ cs)) ∷ physical_lines (drop (suc k) (c ∷ cs))
first-more b c cs e more k at h = by (c == 10) refl k at h
  where
    by : (u : Bool) → (c == 10) ≡ u → (k : ℕ) → position_or_len is_feed (c ∷ cs) ≡ k → k < length (c ∷ cs)
        → physical_lines (b ∷ c ∷ cs) ≡ cut_return (b ∷ take k (c ∷ cs)) ∷ physical_lines (drop (suc k) (c ∷ cs))
    by true f zero at h =
        physical_lines-cons b (c ∷ cs) ∙ ap (λ n. step b n (physical_lines (c ∷ cs))) f
        ∙ ap (step b true) (physical_lines-cons c cs ∙ step-feed c (feeds_next cs) (physical_lines cs) f) ∙ step-return b (physical_lines cs) e
    by true f (suc k) at h = absurd (omega (arith, at, place-feed c cs f))
    by false f zero at h = absurd (omega (arith, at, place-more c cs f))
    by false f (suc k) at h =
        physical_lines-cons b (c ∷ cs) ∙ ap (λ n. step b n (physical_lines (c ∷ cs))) (feeds-not c cs f)
        ∙ ap (step b false) (more (suc k) at h) ∙ step-more b c (take k cs) (physical_lines (drop (suc k) cs)) e

first-step : (b : ℕ) (bs : List ℕ) → HasFirst bs → HasFirst (b ∷ bs)
unfolding cut_return
first-step b bs more k at h = by bs (b == 10) refl more k at h
  where
    by : (bs : List ℕ) (t : Bool) → (b == 10) ≡ t → HasFirst bs → HasFirst (b ∷ bs)
    by bs true e more zero at h = physical_lines-cons b bs ∙ step-feed b (feeds_next bs) (physical_lines bs) e
    by bs true e more (suc k) at h = absurd (omega (arith, at, place-feed b bs e))
    by bs false e more zero at h = absurd (omega (arith, at, place-more b bs e))
    by [] false e more (suc k) at h = absurd (omega (arith, h))
    by (c ∷ cs) false e more (suc k) at h = first-more b c cs e more k (omega (arith, at, place-more b (c ∷ cs) e)) (omega (arith, h))

first : (text : List ℕ) → HasFirst text
first [] k at h = absurd (omega (arith, h))
first (b ∷ bs) k at h = first-step b bs (first bs) k at h

-- the line with its line feed
abbrev FeedsAtEnd : List ℕ → Type 0
FeedsAtEnd text = (k : ℕ) → position_or_len is_feed text ≡ k → k < length text → EndsWithFeed (take (suc k) text)

feeds-step : (b : ℕ) (bs : List ℕ) → FeedsAtEnd bs → FeedsAtEnd (b ∷ bs)
feeds-step b bs more k at h = by (b == 10) refl k at h
  where
    by : (t : Bool) → (b == 10) ≡ t → FeedsAtEnd (b ∷ bs)
    by true e zero at h = record { front = []; is = ap (λ (x : ℕ). x ∷ []) (eqb-true b 10 e) }
    by true e (suc k) at h = absurd (omega (arith, at, place-feed b bs e))
    by false e zero at h = absurd (omega (arith, at, place-more b bs e))
    by false e (suc k) at h =
        let more = more k (omega (arith, at, place-more b bs e)) (omega (arith, h)) in
        record { front = b ∷ more.front; is = ap (λ (t : List ℕ). b ∷ t) more.is }

feeds_at_end : (text : List ℕ) → FeedsAtEnd text
feeds_at_end [] k at h = absurd (omega (arith, h))
feeds_at_end (b ∷ bs) k at h = feeds-step b bs (feeds_at_end bs) k at h

-- ---- the carriage return

without_return-is : (text : List ℕ) → without_return text ≡ cut_return text
unfolding cut_return
without_return-is [] = refl
without_return-is (b ∷ []) = by (b == 13)
  where
    by : (t : Bool) → (if t && true then [] else b ∷ []) ≡ (if t then [] else b ∷ [])
    by true = refl
    by false = refl
without_return-is (b ∷ c ∷ cs) = cut-cons b c cs ∙ ap (λ t. b ∷ t) (without_return-is (c ∷ cs))
  where
    cut-cons : (b c : ℕ) (cs : List ℕ) → without_return (b ∷ c ∷ cs) ≡ b ∷ without_return (c ∷ cs)
    cut-cons b c cs =
        let less : length (b ∷ c ∷ cs) - 1 ≡ suc (length (c ∷ cs) - 1) = omega arith in
        rw less (by (bytes_eq (drop (length (c ∷ cs) - 1) (c ∷ cs)) (codes "\r")))
      where
        by : (t : Bool) → (if t then b ∷ take (length (c ∷ cs) - 1) (c ∷ cs) else b ∷ c ∷ cs) ≡ b ∷ (if t then take (length (c ∷ cs) - 1) (c ∷ cs) else c ∷ cs)
        by true = refl
        by false = refl

-- ---- in the words of the code

place_is : (text : List ℕ) (k : ℕ) → Some k ≡ position is_feed text → (position_or_len is_feed text ≡ k) × (k < length text)
place_is text k at = by (nat_lt (position_or_len is_feed text) (length text)) refl
  where
    by : (t : Bool) → nat_lt (position_or_len is_feed text) (length text) ≡ t → (position_or_len is_feed text ≡ k) × (k < length text)
    by true e =
        let told : Some k ≡ Some (position_or_len is_feed text) = at ∙ ap (λ t. if t then Some (position_or_len is_feed text) else None) e in
        let same : position_or_len is_feed text ≡ k = cc in
        (same, grind (arith, nat_tests, e, same))
    by false e =
        let told : Some k ≡ None = at ∙ ap (λ t. if t then Some (position_or_len is_feed text) else None) e in
        absurd (cc)

no_place : (text : List ℕ) → None ≡ position is_feed text → length text ≤ position_or_len is_feed text
no_place text at = by (nat_lt (position_or_len is_feed text) (length text)) refl
  where
    by : (t : Bool) → nat_lt (position_or_len is_feed text) (length text) ≡ t → length text ≤ position_or_len is_feed text
    by true e =
        let told : None ≡ Some (position_or_len is_feed text) = at ∙ ap (λ t. if t then Some (position_or_len is_feed text) else None) e in
        absurd (cc)
    by false e = grind (arith, nat_tests, e)

pub cut_at : (text : List ℕ) (k : ℕ) → Some k ≡ position is_feed text
    → IsCutAt text (without_return (take k text)) (take (length text - (k + 1)) (drop (k + 1) text))
cut_at text k at =
    let place = place_is text k at in
    let next : k + 1 ≡ suc k = omega arith in
    let rest = take_rest text (k + 1) in
    rw (rest, without_return-is (take k text)) record {
      lines = rw next (first text k place.0 place.1);
      shorter = grind (arith, common_steps, place.1);
      part = take (k + 1) text;
      parts = record { joined = sym (take-append-drop (k + 1) text); ends = inr (rw next (feeds_at_end text k place.0 place.1)) };
    }

some_line : (text : List ℕ) → (text ≡ [] → ⊥) → length text ≤ position_or_len is_feed text → IsCutAt text text []
some_line [] some h = absurd (some refl)
some_line (b ∷ bs) some h = record {
  lines = one_line (b ∷ bs) h ∙ ap (λ (ls : List (List ℕ)). (b ∷ bs) ∷ ls) (sym physical_lines-nil);
  shorter = omega arith;
  part = b ∷ bs;
  parts = record { joined = sym (append-nil (b ∷ bs)); ends = inl refl };
}

pub cut_at_end : (text : List ℕ) → None ≡ position is_feed text → (text ≡ [] → ⊥)
    → IsCutAt text text (take (length text - length text) (drop (length text) text))
cut_at_end text none some =
    let over : take (length text - length text) (drop (length text) text) ≡ [] = take_rest text (length text) ∙ drop-length text in
    rw over (some_line text some (no_place text none))

pub no_lines_left : (text : List ℕ) → text ≡ [] → length (physical_lines text) ≡ 0
unfolding physical_lines
no_lines_left text e = rw e refl
