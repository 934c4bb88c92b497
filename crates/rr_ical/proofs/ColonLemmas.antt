-- What follows the colon of a line, from one colon or quote to the next.
use Rattle.std.proofs.Common.{◌≡◌, ◌∙◌, ◌==◌, ◌&&◌, not, ℕ, zero, suc, ◌+◌, ◌<◌, Bool, false, if◌then◌else◌, List, [], ◌∷◌, length, drop, get_or}
use Rattle.std.proofs.Common.{None, Some, refl, sym, arith}
use Rattle.std.proofs.lemmas.Bool.{false_from_ne_true, or_parts}
use Rattle.std.proofs.lemmas.List.{at_drop_more, at_drop_all, drop-drop, get_or-drop}
use Rattle.memchr.specs.Find.{IsFirstByte, is_byte2}
use Rattle.rr_model.specs.Text.UsedLines.{after_colon, is_quoted_after}

-- a byte that is neither a colon nor a quote is passed over
passed_over : (is_quoted : Bool) (b : ℕ) (bs : List ℕ) → is_byte2 58 34 b ≡ false → after_colon is_quoted (b ∷ bs) ≡ after_colon is_quoted bs
passed_over is_quoted b bs h =
    let n = or_parts (b == 58) (b == 34) h in
    rw (n.0, n.1) refl

-- so are all before the first of them
skipped : (is_quoted : Bool) (text : List ℕ) (k : ℕ) → ((j : ℕ) → j < k → j < length text → is_byte2 58 34 (get_or text j 0) ≡ false)
    → after_colon is_quoted text ≡ after_colon is_quoted (drop k text)
skipped is_quoted text zero h = refl
skipped is_quoted [] (suc k) h = refl
skipped is_quoted (b ∷ bs) (suc k) h =
    passed_over is_quoted b bs (h 0 (omega arith) (omega arith))
    ∙ skipped is_quoted bs k (λ j below within. h (suc j) (omega (arith, below)) (omega (arith, within)))

-- without either there is no value
pub no_colon : (is_quoted : Bool) (text : List ℕ) → IsFirstByte (is_byte2 58 34) text None → after_colon is_quoted text ≡ None
no_colon is_quoted text nowhere =
    skipped is_quoted text (length text) (λ j below within. false_from_ne_true (is_byte2 58 34 (get_or text j 0)) (nowhere j (omega arith) within))
    ∙ at_drop_all (after_colon is_quoted) text (length text) (omega arith)

-- the first of them ends the parameters, or the rest is read after it
pub at_first : (is_quoted : Bool) (text : List ℕ) (k : ℕ) → IsFirstByte (is_byte2 58 34) text (Some k)
    → after_colon is_quoted text ≡ (if (get_or text k 0 == 58) && not is_quoted then Some (drop (k + 1) text)
    else after_colon (is_quoted_after is_quoted (get_or text k 0) (drop (k + 1) text)) (drop (k + 1) text))
at_first is_quoted text k first =
    skipped is_quoted text k (λ j below within. false_from_ne_true (is_byte2 58 34 (get_or text j 0)) (first.0.before j (omega arith) below))
    ∙ at_drop_more (after_colon is_quoted) text k 0 first.0.high

-- the same of what stands behind the first bytes of a text
pub at_first_behind : (is_quoted : Bool) (text : List ℕ) (n k : ℕ) → IsFirstByte (is_byte2 58 34) (drop n text) (Some k)
    → after_colon is_quoted (drop n text) ≡ (if (get_or text (n + k) 0 == 58) && not is_quoted then Some (drop (n + (k + 1)) text)
    else after_colon (is_quoted_after is_quoted (get_or text (n + k) 0) (drop (n + (k + 1)) text)) (drop (n + (k + 1)) text))
at_first_behind is_quoted text n k first =
    rw (sym (get_or-drop n text k 0), sym (drop-drop (k + 1) n text)) (at_first is_quoted (drop n text) k first)
