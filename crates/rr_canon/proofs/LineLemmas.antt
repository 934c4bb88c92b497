-- Lines as they are put together.
use Rattle.std.proofs.Common.{◌≡◌, ℕ, suc, ◌+◌, ◌<◌, List, [], ◌∷◌, ◌++◌, length, get_or, take, append_assoc, refl, sym, ap, ◌∙◌, arith}
use Rattle.std.specs.Fmt.{decimal}
use Rattle.std.proofs.lemmas.List.{append-nil}
use Rattle.std.proofs.Math.Seq.{take-suc}
use Rattle.rr_model.specs.Sets.DescriptorText.{text_of_lines, fields, numbers_line}

pub text_of_lines-append : (ls ms : List (List ℕ)) → text_of_lines (ls ++ ms) ≡ text_of_lines ls ++ text_of_lines ms
unfolding text_of_lines
text_of_lines-append [] ms = refl
text_of_lines-append (l ∷ ls) ms = ap (λ t. l ++ 10 ∷ t) (text_of_lines-append ls ms) ∙ sym (append_assoc l (10 ∷ text_of_lines ls) (text_of_lines ms))

-- three numbers after a letter
pub run_text : (letter g n k : ℕ) (x0 x1 x2 x3 x4 x5 : List ℕ) → x1 ≡ x0 ++ letter ∷ [] → x2 ≡ x1 ++ (32 ∷ decimal g) → x3 ≡ x2 ++ (32 ∷ decimal n)
    → x4 ≡ x3 ++ (32 ∷ decimal k) → x5 ≡ x4 ++ 10 ∷ [] → x5 ≡ x0 ++ text_of_lines (numbers_line letter (g ∷ n ∷ k ∷ []) ∷ [])
unfolding text_of_lines fields
run_text letter g n k x0 x1 x2 x3 x4 x5 e1 e2 e3 e4 e5 = rw (e5, e4, e3, e2, e1) (simp append_assoc refl)

-- a day and a number after a letter
pub settled_text : (letter p : ℕ) (day x0 x1 x2 x3 : List ℕ) → x1 ≡ x0 ++ (letter ∷ 32 ∷ day) → x2 ≡ x1 ++ (32 ∷ decimal p) → x3 ≡ x2 ++ 10 ∷ []
    → x3 ≡ x0 ++ text_of_lines ((letter ∷ 32 ∷ day ++ fields (p ∷ [])) ∷ [])
unfolding text_of_lines fields
settled_text letter p day x0 x1 x2 x3 e1 e2 e3 = rw (e3, e2, e1) (simp append_assoc refl)

fields_push : (ns : List ℕ) (n : ℕ) → fields (ns ++ n ∷ []) ≡ fields ns ++ (32 ∷ decimal n)
unfolding fields
fields_push [] n = append-nil (32 ∷ decimal n)
fields_push (m ∷ ns) n = ap (λ t. 32 ∷ decimal m ++ t) (fields_push ns n) ∙ sym (append_assoc (32 ∷ decimal m) (fields ns) (32 ∷ decimal n))

pub seconds_begun : (x0 x1 times : List ℕ) → x1 ≡ x0 ++ 116 ∷ [] → x1 ≡ x0 ++ (116 ∷ fields (take 0 times))
unfolding fields
seconds_begun x0 x1 times e = e

pub seconds_more : (x0 x1 x2 times : List ℕ) (k second : ℕ) → k < length times → second ≡ get_or times k 0 → x1 ≡ x0 ++ (116 ∷ fields (take k times))
    → x2 ≡ x1 ++ (32 ∷ decimal second) → x2 ≡ x0 ++ (116 ∷ fields (take (k + 1) times))
seconds_more x0 x1 x2 times k second l es e1 e2 =
    let next : take (k + 1) times ≡ take k times ++ get_or times k 0 ∷ [] =
    (let e : k + 1 ≡ suc k = omega arith in ap (λ n. take n times) e ∙ take-suc times k 0 l) in
    let text : fields (take (k + 1) times) ≡ fields (take k times) ++ (32 ∷ decimal second) =
    ap fields next ∙ fields_push (take k times) (get_or times k 0) ∙ ap (λ n. fields (take k times) ++ (32 ∷ decimal n)) (sym es) in
    rw (e2, e1, text) (simp append_assoc refl)

pub seconds_ended : (x0 x1 x2 times front : List ℕ) → front ≡ times → x1 ≡ x0 ++ (116 ∷ fields front) → x2 ≡ x1 ++ 10 ∷ []
    → x2 ≡ x0 ++ text_of_lines (numbers_line 116 times ∷ [])
unfolding text_of_lines
seconds_ended x0 x1 x2 times front all e1 e2 = rw (e2, e1, all) (append_assoc x0 (116 ∷ fields times) (10 ∷ []))
