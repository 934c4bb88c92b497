-- The lines as far as they are unfolded.
use Rattle.std.proofs.Common.{◌≡◌, ℕ, ◌+◌, ◌&&◌, not, Bool, true, false, if◌then◌else◌, List, [], ◌∷◌, ◌++◌, refl, sym, ap, ◌∙◌}
use Rattle.rr_model.specs.Rule.Validity.{is_absent}
use Rattle.rr_model.specs.Text.Lines.{begins_blank, continuation, onto_last, with_physical_line, with_physical_lines, physical_lines}
use Rattle.rr_model.specs.declared.line.Line.{Line}

-- a line made longer
abbrev longer : Line → List ℕ → Line
longer line text = record { number = line.number; text = line.text ++ text }

onto_last-push : (done : List Line) (last : Line) (text : List ℕ) → onto_last (done ++ last ∷ []) text ≡ done ++ longer last text ∷ []
onto_last-push [] last text = refl
onto_last-push (line ∷ []) last text = refl
onto_last-push (line ∷ next ∷ done) last text = ap (λ (ls : List Line). line ∷ ls) (onto_last-push (next ∷ done) last text)

present-push : (done : List Line) (last : Line) → is_absent (done ++ last ∷ []) ≡ false
present-push [] last = refl
present-push (line ∷ done) last = refl

pub continued : (keeps : Bool) (number : ℕ) (done : List Line) (last : Line) (text : List ℕ) → begins_blank text ≡ true
    → done ++ longer last (continuation keeps text) ∷ [] ≡ with_physical_line keeps number (done ++ last ∷ []) text
continued keeps number done last text blank = rw (blank, present-push done last) (sym (onto_last-push done last (continuation keeps text)))

-- one physical line more is taken in
pub taken_in : (keeps : Bool) (number next : ℕ) (lines more : List Line) (text rest line : List ℕ) (all : List Line)
    → physical_lines text ≡ line ∷ physical_lines rest → next ≡ number + 1 → more ≡ with_physical_line keeps number lines line
    → with_physical_lines keeps number lines (physical_lines text) ≡ all → with_physical_lines keeps next more (physical_lines rest) ≡ all
taken_in keeps number next lines more text rest line all cut step put so_far =
    rw (step, put) (sym (ap (with_physical_lines keeps number lines) cut) ∙ so_far)

-- an empty text has no lines
pub no_lines : (keeps : Bool) (first : ℕ) (text : List ℕ) → text ≡ [] → [] ≡ with_physical_lines keeps first [] (physical_lines text)
unfolding physical_lines
no_lines keeps first text e = rw e refl

-- nothing is left
pub all_taken : (keeps : Bool) (number : ℕ) (lines : List Line) (text : List ℕ) (all : List Line) → text ≡ []
    → with_physical_lines keeps number lines (physical_lines text) ≡ all → lines ≡ all
unfolding physical_lines
all_taken keeps number lines text all e so_far = sym (ap (λ (t : List ℕ). with_physical_lines keeps number lines (physical_lines t)) e) ∙ so_far
