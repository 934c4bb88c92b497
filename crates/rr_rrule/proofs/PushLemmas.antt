-- Texts that are written value by value, and lines that are folded piece by piece.
use Rattle.std.proofs.Common.{◌≡◌, ℕ, zero, suc, ◌+◌, ◌*◌, ◌/◌, ◌<◌, ◌≤◌, min, List, [], ◌∷◌, ◌++◌, length, take, drop, get_or, map, ℤ, refl, sym, ap, ◌∙◌, arith}
use Rattle.std.proofs.Common.{append_assoc, append-nil, length-drop}
use Rattle.std.specs.Prelude.{codes}
use Rattle.std.specs.List.{join_with_byte}
use Rattle.std.proofs.lemmas.List.{drop_all, take_min}
use Rattle.rr_model.specs.Text.Written.{calendar_written, date_line, dates_out, folded_text, folded_line, folded_rest, lines_of, line_break, rule_line, rule_text}
use Rattle.rr_model.specs.declared.rule.Rule.{Rule}
use Rattle.rr_model.specs.declared.rule.Series.{Series}
use Rattle.rr_text.proofs.WrittenListLemmas.{one_written}
use Rattle.rr_rrule.specs.RuleTexts.{repetition_text, date_parts_text, time_parts_text}

-- ---- values

-- the first of some values, and each other after a comma
join-first : {X : Type 0} (f : X → List ℕ) (x : X) (xs : List X) → join_with_byte 44 (map f (x ∷ xs)) ≡ f x ++ lines_of (λ y. 44 ∷ f y) xs
join-first f x [] = sym (append-nil (f x))
join-first f x (y ∷ ys) = ap (λ t. f x ++ 44 ∷ t) (join-first f y ys)

-- the first value is written: the others are left
pub first_written : {X : Type 0} (f : X → List ℕ) (old out : List ℕ) (x : X) (xs : List X) → out ≡ old ++ f x
    → out ++ lines_of (λ y. 44 ∷ f y) xs ≡ old ++ join_with_byte 44 (map f (x ∷ xs))
first_written f old out x xs e =
    ap (λ o. o ++ lines_of (λ y. 44 ∷ f y) xs) e ∙ append_assoc old (f x) (lines_of (λ y. 44 ∷ f y) xs) ∙ ap (λ t. old ++ t) (sym (join-first f x xs))

-- one value more, after a comma
pub after_comma : {X : Type 0} (f : X → List ℕ) (out mid next all : List ℕ) (xs : List X) (i : ℕ) (x d : X) → i < length xs → x ≡ get_or xs i d
    → out ++ lines_of (λ y. 44 ∷ f y) (drop i xs) ≡ all → mid ≡ out ++ 44 ∷ [] → next ≡ mid ++ f x
    → next ++ lines_of (λ y. 44 ∷ f y) (drop (i + 1) xs) ≡ all
after_comma f out mid next all xs i x d l is so_far comma e =
    one_written (λ y. 44 ∷ f y) out next all xs i x d l is so_far (e ∙ ap (λ m. m ++ f x) comma ∙ append_assoc out (44 ∷ []) (f x))

-- no value is left
pub all_written : {X : Type 0} (f : X → List ℕ) (out all : List ℕ) (xs : List X) (i : ℕ) → length xs ≤ i → out ++ lines_of f (drop i xs) ≡ all → out ≡ all
all_written f out all xs i l so_far = sym (append-nil out) ∙ ap (λ ys. out ++ lines_of f ys) (sym (drop_all i xs l)) ∙ so_far

-- ---- folded lines

-- what is left behind at most n values
drop_min : {X : Type 0} (n : ℕ) (xs : List X) → drop (min n (length xs)) xs ≡ drop n xs
drop_min zero xs = let on : min zero (length xs) ≡ zero = omega arith in ap (λ k. drop k xs) on
drop_min (suc n) [] = let on : min (suc n) 0 ≡ zero = omega arith in ap (λ k. drop k []) on
drop_min (suc n) (x ∷ xs) =
    let on : min (suc n) (length (x ∷ xs)) ≡ suc (min n (length xs)) = omega arith in
    ap (λ k. drop k (x ∷ xs)) on ∙ drop_min n xs

-- n pieces are enough
folded_rest-enough : (m n : ℕ) (text : List ℕ) → length text ≤ 74 * m → length text ≤ 74 * n → folded_rest m text ≡ folded_rest n text
folded_rest-enough zero zero text hm hn = refl
folded_rest-enough zero (suc n) [] hm hn = refl
folded_rest-enough zero (suc n) (b ∷ bs) hm hn = absurd (omega (arith, hm))
folded_rest-enough (suc m) zero [] hm hn = refl
folded_rest-enough (suc m) zero (b ∷ bs) hm hn = absurd (omega (arith, hn))
folded_rest-enough (suc m) (suc n) [] hm hn = refl
folded_rest-enough (suc m) (suc n) (b ∷ bs) hm hn =
    let short = length-drop 74 (b ∷ bs) in
    ap (λ t. line_break ++ 32 ∷ (take 74 (b ∷ bs) ++ t)) (folded_rest-enough m n (drop 74 (b ∷ bs)) (omega (arith, hm, short)) (omega (arith, hn, short)))

-- one piece more
pub piece_written : (out next piece others rest all : List ℕ) (n : ℕ) → 0 < length rest → n ≡ min 74 (length rest) → piece ≡ take n rest
    → others ≡ drop n rest → out ++ folded_rest (length rest) rest ≡ all → next ≡ out ++ codes "\r\n " ++ piece
    → next ++ folded_rest (length others) others ≡ all
piece_written out next piece others [] all n some en ep eo so_far e = absurd (omega (arith, some))
piece_written out next piece others (b ∷ bs) all n some en ep eo so_far e =
    let rest : List ℕ = b ∷ bs in
    let cut : piece ≡ take 74 rest = ep ∙ ap (λ k. take k rest) en ∙ take_min 74 rest in
    let left : others ≡ drop 74 rest = eo ∙ ap (λ k. drop k rest) en ∙ drop_min 74 rest in
    let short = length-drop 74 rest in
    let enough : folded_rest (length others) others ≡ folded_rest (length bs) (drop 74 rest) =
    rw left (folded_rest-enough (length (drop 74 rest)) (length bs) (drop 74 rest) (omega (arith, short)) (omega (arith, short))) in
    let after : List ℕ = folded_rest (length bs) (drop 74 rest) in
    let moved : next ++ folded_rest (length others) others ≡ out ++ folded_rest (length rest) rest =
    ap (λ t. next ++ t) enough ∙ ap (λ o. o ++ after) (e ∙ ap (λ p. out ++ codes "\r\n " ++ p) cut)
    ∙ append_assoc (out ++ codes "\r\n ") (take 74 rest) after ∙ append_assoc out (codes "\r\n ") (take 74 rest ++ after) in
    moved ∙ so_far

-- the first bytes, and the others on further lines
pub line_written : (old out first others line : List ℕ) (n : ℕ) → n ≡ min 75 (length line) → first ≡ take n line → others ≡ drop n line
    → out ≡ old ++ first ++ folded_rest (length others) others ++ line_break → out ≡ old ++ folded_line line
unfolding folded_text
line_written old out first others line n en ef eo e =
    let cut : first ≡ take 75 line = ef ∙ ap (λ k. take k line) en ∙ take_min 75 line in
    let left : others ≡ drop 75 line = eo ∙ ap (λ k. drop k line) en ∙ drop_min 75 line in
    let short = length-drop 75 line in
    let enough : folded_rest (length others) others ≡ folded_rest (length line / 74) (drop 75 line) =
    rw left (folded_rest-enough (length (drop 75 line)) (length line / 74) (drop 75 line) (omega (arith, short)) (omega (arith, short))) in
    e ∙ rw (enough, cut) (simp append_assoc refl)

-- ---- a rule and a series

-- ten texts in a row, the first alone, the others in two stretches
in_stretches : (a m w y k d h i s p : List ℕ) → a ++ m ++ w ++ y ++ k ++ d ++ h ++ i ++ s ++ p ≡ a ++ (m ++ w ++ y ++ k ++ d) ++ (h ++ i ++ s ++ p)
in_stretches a m w y k d h i s p = simp append_assoc refl

-- a rule's text, stretch by stretch
pub rule_by_stretches : (rule : Rule) → rule_text rule ≡ repetition_text rule ++ date_parts_text rule ++ time_parts_text rule
unfolding rule_text
rule_by_stretches rule = in_stretches (repetition_text rule) _ _ _ _ _ _ _ _ _

-- the lines of a series, one after the other
pub series_written : (series : Series) (a b x c d : List ℕ) (rules excluded : List Rule) (plus minus : List ℤ) → rules ≡ series.rules
    → excluded ≡ series.excluded → plus ≡ series.plus
    → minus ≡ dates_out series → a ≡ date_line (codes "DTSTART") series.kind series.start → b ≡ a ++ lines_of (rule_line (codes "RRULE")) rules
    → x ≡ b ++ lines_of (rule_line (codes "EXRULE")) excluded
    → c ≡ x ++ lines_of (date_line (codes "RDATE") series.kind) plus → d ≡ c ++ lines_of (date_line (codes "EXDATE") series.kind) minus
    → d ≡ calendar_written series
unfolding calendar_written
series_written series a b x c d rules excluded plus minus er ex ep em ea eb eo ec ed = rw (ed, ec, eo, eb, ea, er, ex, ep, em) refl
