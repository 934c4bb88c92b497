-- Folding is undone by unfolding (RFC 5545, section 3.1).
use Rattle.std.proofs.Common.{◌≡◌, ℕ, zero, suc, ◌+◌, ◌*◌, ◌/◌, ◌≤◌, ◌==◌, false, List, [], ◌∷◌, ◌++◌, length, take, drop, refl, sym, ap, ◌∙◌, arith}
use Rattle.std.proofs.Common.{append_assoc, append-nil, take-append-drop, length-drop}
use Rattle.std.specs.List.{onto_first}
use Rattle.rr_model.specs.Text.Lines.{physical_lines, begins_blank, with_physical_line, with_physical_lines, unfolded_lines}
use Rattle.rr_model.specs.Text.Written.{folded_rest, folded_text, folded_line, lines_of}
use Rattle.rr_model.specs.declared.line.Line.{Line}
use Rattle.rr_text.proofs.UnfoldLemmas.{continued}

-- no byte of a line break stands in it
abbrev pub IsUnbroken : List ℕ → Type 0
IsUnbroken [] = Unit {0}
IsUnbroken (b ∷ bs) = ((b == 10) ≡ false) × ((b == 13) ≡ false) × IsUnbroken bs

-- one line that CR LF ends, before others
pub line_ends : (text rest : List ℕ) → IsUnbroken text → physical_lines (text ++ 13 ∷ 10 ∷ rest) ≡ text ∷ physical_lines rest
unfolding physical_lines
line_ends [] rest h = refl
line_ends (b ∷ bs) rest h = rw (h.0, h.1) (ap (onto_first b) (line_ends bs rest h.2))

unbroken-take : (n : ℕ) (text : List ℕ) → IsUnbroken text → IsUnbroken (take n text)
unbroken-take zero text h = tt
unbroken-take (suc n) [] h = tt
unbroken-take (suc n) (b ∷ bs) h = (h.0, h.1, unbroken-take n bs h.2)

unbroken-drop : (n : ℕ) (text : List ℕ) → IsUnbroken text → IsUnbroken (drop n text)
unbroken-drop zero text h = h
unbroken-drop (suc n) [] h = tt
unbroken-drop (suc n) (b ∷ bs) h = unbroken-drop n bs h.2

-- the physical lines of the folded rest
pub pieces_of : ℕ → List ℕ → List (List ℕ)
pieces_of zero text = []
pieces_of (suc n) [] = []
pieces_of (suc n) (b ∷ bs) = (32 ∷ take 74 (b ∷ bs)) ∷ pieces_of n (drop 74 (b ∷ bs))

folded_lines : (n : ℕ) (front text rest : List ℕ) → IsUnbroken front → IsUnbroken text
    → physical_lines (front ++ (folded_rest n text ++ 13 ∷ 10 ∷ rest)) ≡ front ∷ (pieces_of n text ++ physical_lines rest)
unfolding pieces_of
folded_lines zero front text rest f h = line_ends front rest f
folded_lines (suc n) front [] rest f h = line_ends front rest f
folded_lines (suc n) front (b ∷ bs) rest f h =
    let piece = 32 ∷ take 74 (b ∷ bs) in
    let more = folded_lines n piece (drop 74 (b ∷ bs)) rest (refl, refl, unbroken-take 74 (b ∷ bs) h) (unbroken-drop 74 (b ∷ bs) h) in
    ap (λ (t : List ℕ). physical_lines (front ++ 13 ∷ 10 ∷ 32 ∷ t)) (append_assoc (take 74 (b ∷ bs)) (folded_rest n (drop 74 (b ∷ bs))) (13 ∷ 10 ∷ rest))
    ∙ line_ends front (piece ++ (folded_rest n (drop 74 (b ∷ bs)) ++ 13 ∷ 10 ∷ rest)) f
    ∙ ap (λ (ls : List (List ℕ)). front ∷ ls) more

-- ---- one line

abbrev line : ℕ → List ℕ → Line
line number text = record { number = number; text = text }

left_below : (n : ℕ) (text : List ℕ) → length text ≤ 74 * suc n → length (drop 74 text) ≤ 74 * n
left_below n text h = omega (arith, length-drop 74 text, h)

rest_below : (text : List ℕ) → length (drop 75 text) ≤ 74 * (length text / 74)
rest_below text = omega (arith, length-drop 75 text)

plus_none : (k : ℕ) → k + 0 ≡ k
plus_none k = omega arith

pieces-unfold : (n k : ℕ) (done : List Line) (number : ℕ) (front text : List ℕ) (rest : List (List ℕ)) → length text ≤ 74 * n
    → with_physical_lines false k (done ++ line number front ∷ []) (pieces_of n text ++ rest)
    ≡ with_physical_lines false (k + length (pieces_of n text)) (done ++ line number (front ++ text) ∷ []) rest
unfolding pieces_of
pieces-unfold zero k done number front [] rest h = rw (append-nil front, plus_none k) refl
pieces-unfold zero k done number front (b ∷ bs) rest h = absurd (omega (arith, h))
pieces-unfold (suc n) k done number front [] rest h = rw (append-nil front, plus_none k) refl
pieces-unfold (suc n) k done number front (b ∷ bs) rest h =
    let piece = take 74 (b ∷ bs) in
    let left = drop 74 (b ∷ bs) in
    let fewer = left_below n (b ∷ bs) h in
    let whole : (front ++ piece) ++ left ≡ front ++ (b ∷ bs) =
    append_assoc front piece left ∙ ap (λ (t : List ℕ). front ++ t) (take-append-drop 74 (b ∷ bs)) in
    let count : (k + 1) + length (pieces_of n left) ≡ k + suc (length (pieces_of n left)) = omega arith in
    ap (λ (ls : List Line). with_physical_lines false (k + 1) ls (pieces_of n left ++ rest))
    (sym (continued false k done (line number front) (32 ∷ piece) refl))
    ∙ pieces-unfold n (k + 1) done number (front ++ piece) left rest fewer
    ∙ ap (λ (t : List ℕ). with_physical_lines false ((k + 1) + length (pieces_of n left)) (done ++ line number t ∷ []) rest) whole
    ∙ ap (λ (m : ℕ). with_physical_lines false m (done ++ line number (front ++ (b ∷ bs)) ∷ []) rest) count

-- the number of the physical line after a folded one
abbrev pub number_after : ℕ → List ℕ → ℕ
number_after k text = (k + 1) + length (pieces_of (length text / 74) (drop 75 text))

-- A text without line breaks that does not begin with a blank is folded, ended by CR LF, and unfolded to itself:
-- one line more, of the next number, and the numbers go on behind its pieces.
pub folded_unfolds : (k : ℕ) (done : List Line) (text rest : List ℕ) → IsUnbroken text → begins_blank (take 75 text) ≡ false
    → with_physical_lines false k done (physical_lines (folded_line text ++ rest))
    ≡ with_physical_lines false (number_after k text) (done ++ line k text ∷ []) (physical_lines rest)
unfolding folded_text
folded_unfolds k done text rest h first =
    let n = length text / 74 in
    let front = take 75 text in
    let left = drop 75 text in
    let opened : ((front ++ folded_rest n left) ++ 13 ∷ 10 ∷ []) ++ rest ≡ front ++ (folded_rest n left ++ 13 ∷ 10 ∷ rest) =
    append_assoc (front ++ folded_rest n left) (13 ∷ 10 ∷ []) rest ∙ append_assoc front (folded_rest n left) (13 ∷ 10 ∷ rest) in
    let begun : with_physical_line false k done front ≡ done ++ line k front ∷ [] = rw first refl in
    ap (λ (t : List ℕ). with_physical_lines false k done (physical_lines t)) opened
    ∙ ap (with_physical_lines false k done) (folded_lines n front left rest (unbroken-take 75 text h) (unbroken-drop 75 text h))
    ∙ ap (λ (ls : List Line). with_physical_lines false (k + 1) ls (pieces_of n left ++ physical_lines rest)) begun
    ∙ pieces-unfold n (k + 1) done k front left (physical_lines rest) (rest_below text)
    ∙ ap (λ (t : List ℕ). with_physical_lines false (number_after k text) (done ++ line k t ∷ []) (physical_lines rest)) (take-append-drop 75 text)

-- ---- lines

-- the texts are lines: without line breaks, and none begins with a blank
abbrev pub AreLines : List (List ℕ) → Type 0
AreLines [] = Unit {0}
AreLines (text ∷ texts) = IsUnbroken text × (begins_blank (take 75 text) ≡ false) × AreLines texts

-- the texts as lines, the first of this number
abbrev pub numbered : ℕ → List (List ℕ) → List Line
numbered k [] = []
numbered k (text ∷ texts) = line k text ∷ numbered (number_after k text) texts

lines_unfold : (k : ℕ) (done : List Line) (texts : List (List ℕ)) → AreLines texts
    → with_physical_lines false k done (physical_lines (lines_of folded_line texts)) ≡ done ++ numbered k texts
unfolding physical_lines
lines_unfold k done [] h = sym (append-nil done)
lines_unfold k done (text ∷ texts) h =
    folded_unfolds k done text (lines_of folded_line texts) h.0 h.1
    ∙ lines_unfold (number_after k text) (done ++ line k text ∷ []) texts h.2
    ∙ append_assoc done (line k text ∷ []) (numbered (number_after k text) texts)

-- Folded lines are unfolded to the lines that they were.
pub folded_lines_unfold : (texts : List (List ℕ)) → AreLines texts → unfolded_lines false (lines_of folded_line texts) ≡ numbered 1 texts
unfolding unfolded_lines
folded_lines_unfold texts h = lines_unfold 1 [] texts h
