-- The UID of an event is that of the lines from its own on, and of no empty line.
use Rattle.std.proofs.Common.{◌≡◌, ℕ, ◌+◌, Bool, true, false, ◌&&◌, if◌then◌else◌, List, [], ◌∷◌, codes, Result, refl, sym, ap, ◌∙◌}
use Rattle.rr_model.specs.Text.Event.{is_in_event}
use Rattle.rr_model.specs.Text.Lines.{physical_lines}
use Rattle.rr_model.specs.declared.line.Line.{Line}
use Rattle.rr_model.specs.declared.refusal.Refusal.{Refusal}
use Rattle.rr_events.specs.Cutting.{AreEmpty, IsCut, lines_at}
use Rattle.rr_events.specs.Own.{first_value, own_line, own_lines}
use Rattle.rr_events.proofs.EmptyLemmas.{empty-first, empty_line}
use Rattle.rr_events.proofs.LineLemmas.{line-first}
use Rattle.rr_icalfile.specs.Keys.{first_line, uid_in}
use Rattle.rr_icalfile.proofs.FullLemmas.{empty-open}

-- ---- empty lines

uid-empty : (names : List (List ℕ)) (number : ℕ) (lines : List Line) → uid_in names (empty_line number ∷ lines) ≡ uid_in names lines
uid-empty names number lines =
    ap (λ (r : Result (List (List ℕ)) Refusal). first_value (codes "UID") (own_line (is_in_event names) (empty_line number) r (λ after. own_lines after lines)))
    (empty-open names number)
    ∙ by (is_in_event names && is_in_event names)
  where
    by : (b : Bool) → first_value (codes "UID") (if b then empty_line number ∷ own_lines names lines else own_lines names lines) ≡ uid_in names lines
    by true = refl
    by false = refl

uid-less : (names : List (List ℕ)) (number : ℕ) (text rest : List ℕ) (at : ℕ) → AreEmpty number text rest at
    → uid_in names (lines_at number text) ≡ uid_in names (lines_at at rest)
uid-less names number text rest at AreEmpty.none = refl
uid-less names number text _ _ (AreEmpty.more rest after at empty one) =
    uid-less names number text rest at empty
    ∙ ap (uid_in names) (line-first at rest (empty_line at) after (at + 1) (empty-first at rest after one)) ∙ uid-empty names at (lines_at (at + 1) after)

-- ---- the lines of a piece

module _ (names : List (List ℕ)) (number : ℕ) (text : List ℕ) (line : Line) (behind : List ℕ) (next : ℕ) where
  -- the search goes on behind a line and the empty lines after it
  pub uid-next : (after : List (List ℕ)) (rest : List ℕ) (at : ℕ) (all : List ℕ) → IsCut number text line behind next → AreEmpty next behind rest at
      → ((more : List Line) → uid_in names (line ∷ more) ≡ uid_in after more) → uid_in names (lines_at number text) ≡ all
      → uid_in after (lines_at at rest) ≡ all
  uid-next after rest at all cut empty searched so_far =
      sym (uid-less after next behind rest at empty) ∙ sym (searched (lines_at next behind))
      ∙ ap (uid_in names) (sym (line-first number text line behind next cut))
      ∙ so_far

  -- it ends at a line
  pub uid-ends : (uid all : List ℕ) → IsCut number text line behind next → ((more : List Line) → uid_in names (line ∷ more) ≡ uid)
      → uid_in names (lines_at number text) ≡ all → uid ≡ all
  uid-ends uid all cut searched so_far =
      sym (searched (lines_at next behind)) ∙ ap (uid_in names) (sym (line-first number text line behind next cut)) ∙ so_far

-- no line is left
pub uid-none : (names : List (List ℕ)) (number : ℕ) (text all : List ℕ) → text ≡ [] → uid_in names (lines_at number text) ≡ all → [] ≡ all
unfolding physical_lines
uid-none names number text all none so_far = rw none at so_far

-- the number of the first line
pub number-first : (number : ℕ) (text : List ℕ) (line : Line) (behind : List ℕ) (next : ℕ) → IsCut number text line behind next
    → line.number ≡ first_line (lines_at number text)
number-first number text line behind next cut = ap first_line (sym (line-first number text line behind next cut))

pub number-none : (number : ℕ) (text : List ℕ) → text ≡ [] → 0 ≡ first_line (lines_at number text)
unfolding physical_lines
number-none number text none = rw none refl
