-- The events to look at of one line more, and the whole page.
use Rattle.std.proofs.Common.{◌≡◌, ℕ, ◌+◌, ◌<◌, ◌≤◌, List, [], ◌∷◌, ◌++◌, length, get_or, drop, sym, subst, ap, ◌∙◌, append_assoc}
use Rattle.std.proofs.lemmas.List.{append-nil, at_drop_all, drop_more}
use Rattle.rr_page.specs.Class.{is_shown, left_behind}
use Rattle.rr_page.specs.Page.{AreEvents, IsEventIf, IsPut}
use Rattle.rr_page.specs.declared.class.Class.TheVariants.{Look}
use Rattle.rr_page.specs.declared.class.TheConstants.{MOST_EVENTS}
use Rattle.rr_seam.specs.Stated.{Stated}
use Rattle.rr_trip.specs.declared.report.ReportLine.{ReportLine}

-- ---- the events to look at

-- these lines are left, of which so many may be shown: what is put for them makes the events of all
pub record IsSoFar (a b : List ℕ → Stated) (lines : List ReportLine) (old : List ℕ) (left : ℕ) (rest : List ReportLine) (page : List ℕ) : Type 0 where
  pub text : List ℕ
  pub put : page ≡ old ++ text
  pub goes_on : (more : List ℕ) → AreEvents a b left rest more → AreEvents a b MOST_EVENTS lines (text ++ more)

module _ (a b : List ℕ → Stated) (lines : List ReportLine) (old : List ℕ) where
  pub none_put : IsSoFar a b lines old MOST_EVENTS lines old
  none_put = record { text = []; put = sym (append-nil old); goes_on = λ more h. h }

  one_line : (left : ℕ) (line : ReportLine) (rest : List ReportLine) (page next : List ℕ) → IsSoFar a b lines old left (line ∷ rest) page
      → IsPut (IsEventIf a b (is_shown Look left line) line) page next → IsSoFar a b lines old (left_behind Look left line) rest next
  one_line left line rest page next so_far e = record {
    text = so_far.text ++ e.text;
    put = e.put ∙ ap (λ (o : List ℕ). o ++ e.text) so_far.put ∙ append_assoc old so_far.text e.text;
    goes_on = λ more h.
        subst (AreEvents a b MOST_EVENTS lines) (sym (append_assoc so_far.text e.text more))
        (so_far.goes_on (e.text ++ more) (AreEvents.line left line rest e.text more e.is_text h));
  }

  pub line_put : (i left after : ℕ) (line d : ReportLine) (page next : List ℕ) → i < length lines → line ≡ get_or lines i d
      → after ≡ left_behind Look left line → IsSoFar a b lines old left (drop i lines) page
      → IsPut (IsEventIf a b (is_shown Look left line) line) page next → IsSoFar a b lines old after (drop (i + 1) lines) next
  line_put i left after line d page next l is moved so_far e =
      let here = drop_more lines i d l ∙ ap (λ y. y ∷ drop (i + 1) lines) (sym is) in
      subst (λ (n : ℕ). IsSoFar a b lines old n (drop (i + 1) lines) next) (sym moved)
      (one_line left line (drop (i + 1) lines) page next (subst (λ (ls : List ReportLine). IsSoFar a b lines old left ls page) here so_far) e)

  pub lines_put : (i left : ℕ) (page : List ℕ) → length lines ≤ i → IsSoFar a b lines old left (drop i lines) page
      → IsPut (AreEvents a b MOST_EVENTS lines) old page
  lines_put i left page end so_far =
      let last : IsSoFar a b lines old left [] page = subst (λ (ls : List ReportLine). IsSoFar a b lines old left ls page)
      (at_drop_all (λ (ls : List ReportLine). ls) lines i end) so_far in
      record { text = last.text ++ []; is_text = last.goes_on [] (AreEvents.end left); put = last.put ∙ ap (λ (t : List ℕ). old ++ t) (sym (append-nil last.text)) }
