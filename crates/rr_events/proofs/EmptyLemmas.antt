-- Empty lines at the front of a text.
use Rattle.std.proofs.Common.{◌≡◌, inr, ℕ, ◌+◌, ◌≤◌, Bool, true, false, cond, List, [], ◌∷◌, ◌++◌, length, refl, sym, ap, ◌∙◌, arith, append_assoc, append-nil}
use Rattle.std.specs.List.{filter}
use Rattle.rr_model.specs.Text.Lines.{physical_lines}
use Rattle.rr_model.specs.declared.line.Line.{Line}
use Rattle.rr_text.specs.Physical.{IsCutAt}
use Rattle.rr_events.specs.Cutting.{AreEmpty, IsCut, IsEmptyLine, full_lines, has_text, lines_at}
use Rattle.rr_events.proofs.LineLemmas.{line-first, one-begun}

-- ---- one empty line

-- it is cut off
pub empty-cut : (text after : List ℕ) → IsEmptyLine text after → IsCutAt text [] after
unfolding physical_lines
empty-cut text after empty = rw empty.is record {
  lines = refl;
  shorter = omega arith;
  part = 10 ∷ [];
  parts = record { joined = refl; ends = inr (record { front = []; is = refl }) };
}

-- the line of this number that has no byte
abbrev pub empty_line : ℕ → Line
empty_line number = record { number = number; text = [] }

-- it is the first line
pub empty-first : (number : ℕ) (text after : List ℕ) → IsEmptyLine text after → IsCut number text (empty_line number) after (number + 1)
empty-first number text after empty = record {
  one = one-begun number text [] [] after refl (empty-cut text after empty);
  starts = empty.starts;
}

-- ---- several

-- they leave no more bytes, and no more bytes and numbers together, than there were
pub empty-shorter : (number : ℕ) (text rest : List ℕ) (at : ℕ) → AreEmpty number text rest at → length rest ≤ length text
empty-shorter number text rest at AreEmpty.none = omega arith
empty-shorter number text _ _ (AreEmpty.more rest after at empty one) =
    omega (arith, empty-shorter number text rest at empty, ap length one.is)

pub empty-few : (number : ℕ) (text rest : List ℕ) (at : ℕ) → AreEmpty number text rest at → at + length rest ≤ number + length text
empty-few number text rest at AreEmpty.none = omega arith
empty-few number text _ _ (AreEmpty.more rest after at empty one) =
    omega (arith, empty-few number text rest at empty, ap length one.is)

-- the lines with a byte are those of the rest
pub empty-none : (number : ℕ) (text rest : List ℕ) (at : ℕ) → AreEmpty number text rest at → filter has_text (lines_at number text) ≡ filter has_text (lines_at at rest)
empty-none number text rest at AreEmpty.none = refl
empty-none number text _ _ (AreEmpty.more rest after at empty one) =
    empty-none number text rest at empty ∙ ap (filter has_text) (line-first at rest (empty_line at) after (at + 1) (empty-first at rest after one))

-- ---- lines with a byte, as far as they are put

one_part : (line : Line) (more : List Line) → filter has_text (line ∷ more) ≡ filter has_text (line ∷ []) ++ filter has_text more
one_part line more = by (has_text line)
  where
    by : (b : Bool) → cond b (line ∷ filter has_text more) (filter has_text more) ≡ cond b (line ∷ []) [] ++ filter has_text more
    by true = refl
    by false = refl

pub one_put : (lines next all : List Line) (number : ℕ) (text : List ℕ) (line : Line) (after : List ℕ) (m : ℕ) (rest : List ℕ) (at : ℕ)
    → IsCut number text line after m → AreEmpty m after rest at → next ≡ lines ++ filter has_text (line ∷ [])
    → lines ++ filter has_text (lines_at number text) ≡ all → next ++ filter has_text (lines_at at rest) ≡ all
one_put lines next all number text line after m rest at cut empty put so_far =
    ap (λ (ls : List Line). next ++ ls) (sym (empty-none m after rest at empty))
    ∙ ap (λ (ls : List Line). ls ++ filter has_text (lines_at m after)) put
    ∙ append_assoc lines (filter has_text (line ∷ [])) (filter has_text (lines_at m after))
    ∙ ap (λ (ls : List Line). lines ++ ls) (sym (one_part line (lines_at m after)) ∙ ap (filter has_text) (sym (line-first number text line after m cut)))
    ∙ so_far

pub all_put : (lines all : List Line) (at : ℕ) (rest : List ℕ) → rest ≡ [] → lines ++ filter has_text (lines_at at rest) ≡ all → lines ≡ all
unfolding physical_lines
all_put lines all at rest none so_far = sym (append-nil lines) ∙ (rw none at so_far)

-- the first line, and the others but for the empty ones
pub first_full : (number : ℕ) (text : List ℕ) (line : Line) (after : List ℕ) (m : ℕ) → IsCut number text line after m
    → full_lines (lines_at number text) ≡ line ∷ filter has_text (lines_at m after)
first_full number text line after m cut = ap full_lines (line-first number text line after m cut)

pub none_full : (number : ℕ) (text : List ℕ) → text ≡ [] → full_lines (lines_at number text) ≡ []
unfolding physical_lines
none_full number text none = rw none refl
