-- A carriage return before a line feed changes no line.
use Rattle.std.proofs.Common.{◌≡◌, ℕ, zero, suc, ◌==◌, ◌&&◌, not, Bool, true, false, List, [], ◌∷◌, length, take, drop, refl, ap, ◌∙◌, arith}
use Rattle.std.specs.Prelude.{IsTrue}
use Rattle.std.specs.List.{list_all, onto_first}
use Rattle.std.specs.Str.{bytes_eq}
use Rattle.std.proofs.lemmas.Bool.{and_parts}
use Rattle.std.proofs.lemmas.Bool.Decides.{nat_tests}
use Rattle.rr_model.specs.Text.Lines.{physical_lines, without_mark}
use Rattle.rr_ical.specs.Lists.{list_text}
use Rattle.rr_ical.specs.LineLaws.{HasNoReturn, with_returns, LineEndsDoNotMatter}

-- ---- lines

pub same_lines : (text : List ℕ) → HasNoReturn text → physical_lines (with_returns text) ≡ physical_lines text
unfolding physical_lines
same_lines [] h = refl
same_lines (b ∷ bs) h =
    let parts = and_parts (not (b == 13)) (list_all (λ c. not (c == 13)) bs) h in
    by (b == 10) (b == 13) refl refl parts.0 (same_lines bs parts.1)
  where
    by : (feed return : Bool) → (b == 10) ≡ feed → (b == 13) ≡ return → not (b == 13) ≡ true → physical_lines (with_returns bs) ≡ physical_lines bs
        → physical_lines (with_returns (b ∷ bs)) ≡ physical_lines (b ∷ bs)
    by true return e f n same = rw e (ap (λ (ls : List (List ℕ)). [] ∷ ls) same)
    by false true e f n same = absurd (let g : not true ≡ true = rw f at n in cc)
    by false false e f n same =
        let plain : with_returns (b ∷ bs) ≡ b ∷ with_returns bs = rw e refl in
        ap physical_lines plain ∙ rw (e, f) (ap (onto_first b) same)

-- ---- the byte order mark

-- a mark without line feeds and carriage returns
abbrev IsMark : List ℕ → Type 0
IsMark mark = IsTrue (list_all (λ b. not (b == 10) && not (b == 13)) mark)

mark_tested : (mark text : List ℕ) → IsMark mark → bytes_eq (take (length mark) (with_returns text)) mark ≡ bytes_eq (take (length mark) text) mark
mark_tested [] text h = refl
mark_tested (m ∷ ms) [] h = refl
mark_tested (m ∷ ms) (b ∷ bs) h =
    let parts = and_parts (not (m == 10) && not (m == 13)) (list_all (λ c. not (c == 10) && not (c == 13)) ms) h in
    by (b == 10) refl parts.0 (mark_tested ms bs parts.1)
  where
    by : (feed : Bool) → (b == 10) ≡ feed → (not (m == 10) && not (m == 13)) ≡ true
        → bytes_eq (take (length ms) (with_returns bs)) ms ≡ bytes_eq (take (length ms) bs) ms
        → bytes_eq (take (length (m ∷ ms)) (with_returns (b ∷ bs))) (m ∷ ms) ≡ bytes_eq (take (length (m ∷ ms)) (b ∷ bs)) (m ∷ ms)
    by true e n same = rw e (grind (arith, nat_tests, e, n))
    by false e n same = rw (e, same) refl

mark_dropped : (mark text : List ℕ) → IsMark mark → bytes_eq (take (length mark) text) mark ≡ true
    → drop (length mark) (with_returns text) ≡ with_returns (drop (length mark) text)
mark_dropped [] text h e = refl
mark_dropped (m ∷ ms) [] h e = refl
mark_dropped (m ∷ ms) (b ∷ bs) h e =
    let parts = and_parts (not (m == 10) && not (m == 13)) (list_all (λ c. not (c == 10) && not (c == 13)) ms) h in
    let front = and_parts (b == m) (bytes_eq (take (length ms) bs) ms) e in
    by (b == 10) refl front.0 parts.0 (mark_dropped ms bs parts.1 front.1)
  where
    by : (feed : Bool) → (b == 10) ≡ feed → (b == m) ≡ true → (not (m == 10) && not (m == 13)) ≡ true
        → drop (length ms) (with_returns bs) ≡ with_returns (drop (length ms) bs)
        → drop (length (m ∷ ms)) (with_returns (b ∷ bs)) ≡ with_returns (drop (length (m ∷ ms)) (b ∷ bs))
    by true e same n more = absurd (grind (arith, nat_tests, e, same, n))
    by false e same n more = rw e more

abbrev mark : List ℕ
mark = 239 ∷ 187 ∷ 191 ∷ []

pub without_mark-returns : (text : List ℕ) → without_mark (with_returns text) ≡ with_returns (without_mark text)
without_mark-returns text = by (bytes_eq (take 3 text) mark) refl
  where
    by : (b : Bool) → bytes_eq (take 3 text) mark ≡ b → without_mark (with_returns text) ≡ with_returns (without_mark text)
    by true e = rw (mark_tested mark text refl ∙ e, e) (mark_dropped mark text refl e)
    by false e = rw (mark_tested mark text refl ∙ e, e) refl

no_return-drop : (n : ℕ) (text : List ℕ) → HasNoReturn text → HasNoReturn (drop n text)
no_return-drop zero text h = h
no_return-drop (suc n) [] h = h
no_return-drop (suc n) (b ∷ bs) h = no_return-drop n bs (and_parts (not (b == 13)) (list_all (λ c. not (c == 13)) bs) h).1

pub no_return-mark : (text : List ℕ) → HasNoReturn text → HasNoReturn (without_mark text)
no_return-mark text h = by (bytes_eq (take 3 text) mark) refl
  where
    by : (b : Bool) → bytes_eq (take 3 text) mark ≡ b → HasNoReturn (without_mark text)
    by true e = rw e (no_return-drop 3 text h)
    by false e = rw e h

-- ---- the law

pub line_ends_do_not_matter : LineEndsDoNotMatter
unfolding list_text
line_ends_do_not_matter text h =
    let plain = without_mark text in
    let lines : physical_lines (without_mark (with_returns text)) ≡ physical_lines plain =
    ap physical_lines (without_mark-returns text) ∙ same_lines plain (no_return-mark text h) in
    rw lines refl
