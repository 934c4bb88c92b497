-- A text is unfolded part by part.
use Rattle.std.proofs.Common.{◌≡◌, ◌∙◌, sym, refl, ap, ℕ, ◌+◌, Bool, true, false, List, [], ◌∷◌, ◌++◌}
use Rattle.std.specs.Prelude.{not, ◌&&◌, cond}
use Rattle.rr_model.specs.Rule.Validity.{is_absent}
use Rattle.rr_model.specs.Text.Lines.{begins_blank, continuation, onto_last, with_physical_line, with_physical_lines}
use Rattle.rr_model.specs.declared.line.Line.{Line}
use Rattle.rr_events.specs.Cutting.{PartsUnfoldAlone}

-- only the last line is made longer
onto_last-after : (done : List Line) (line : Line) (more : List Line) (text : List ℕ) → onto_last (done ++ line ∷ more) text ≡ done ++ onto_last (line ∷ more) text
onto_last-after [] line more text = refl
onto_last-after (d ∷ []) line more text = refl
onto_last-after (d ∷ e ∷ done) line more text = ap (λ xs. d ∷ xs) (onto_last-after (e ∷ done) line more text)

-- three lists after each other
three : (xs ys zs : List Line) → (xs ++ ys) ++ zs ≡ xs ++ (ys ++ zs)
three [] ys zs = refl
three (x ∷ xs) ys zs = ap (λ l. x ∷ l) (three xs ys zs)

-- lines that are done before others are done stay as they are
line-after : (kb : Bool) (n : ℕ) (done : List Line) (line : Line) (more : List Line) (text : List ℕ)
    → with_physical_line kb n (done ++ line ∷ more) text ≡ done ++ with_physical_line kb n (line ∷ more) text
line-after kb n [] line more text = refl
line-after kb n (d ∷ done) line more text =
    elim (begins_blank text) as (λ b. cond (b && true) (onto_last (d ∷ (done ++ line ∷ more)) (continuation kb text))
    (d ∷ ((done ++ line ∷ more) ++ record { number = n; text = text } ∷ []))
    ≡ d ∷ (done ++ cond (b && true) (onto_last (line ∷ more) (continuation kb text)) (line ∷ (more ++ record { number = n; text = text } ∷ [])))) [
      | true ↦ onto_last-after (d ∷ done) line more (continuation kb text)
      | false ↦ ap (λ l. d ∷ l) (three done (line ∷ more) (record { number = n; text = text } ∷ []))
    ]

-- a line that is made longer is there
longer-some : (line : Line) (more : List Line) (text : List ℕ) → is_absent (onto_last (line ∷ more) text) ≡ false
longer-some line [] text = refl
longer-some line (next ∷ more) text = refl

-- with one more physical line there is a line
line-some : (kb : Bool) (n : ℕ) (line : Line) (more : List Line) (text : List ℕ) → is_absent (with_physical_line kb n (line ∷ more) text) ≡ false
line-some kb n line more text =
    elim (begins_blank text) as (λ b. is_absent (cond (b && true) (onto_last (line ∷ more) (continuation kb text))
    (line ∷ (more ++ record { number = n; text = text } ∷ []))) ≡ false) [
      | true ↦ longer-some line more (continuation kb text)
      | false ↦ refl
    ]

-- and so with all of them
lines-after : (kb : Bool) (n : ℕ) (done lines : List Line) (texts : List (List ℕ)) → is_absent lines ≡ false
    → with_physical_lines kb n (done ++ lines) texts ≡ done ++ with_physical_lines kb n lines texts
lines-after kb n done lines [] some = refl
lines-after kb n done [] (text ∷ texts) some = cc
lines-after kb n done (line ∷ more) (text ∷ texts) some =
    ap (λ ls. with_physical_lines kb (n + 1) ls texts) (line-after kb n done line more text)
    ∙ lines-after kb (n + 1) done (with_physical_line kb n (line ∷ more) text) texts (line-some kb n line more text)

pub parts_unfold_alone : PartsUnfoldAlone
parts_unfold_alone kb n done text texts starts =
    let next : List Line = record { number = n; text = text } ∷ [] in
    ap (λ b. with_physical_lines kb (n + 1) (cond (b && not (is_absent done)) (onto_last done (continuation kb text)) (done ++ next)) texts) starts
    ∙ lines-after kb (n + 1) done next texts refl
    ∙ sym (ap (λ b. done ++ with_physical_lines kb (n + 1) (cond (b && false) (onto_last [] (continuation kb text)) next) texts) starts)
