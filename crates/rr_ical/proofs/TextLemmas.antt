-- The end of a list's text.
use Rattle.std.proofs.Common.{◌≡◌, ℕ, List, [], sym, ap, ◌∙◌, Result, Ok}
use Rattle.rr_model.specs.Text.Lines.{physical_lines}
use Rattle.rr_ical.specs.Lists.{with_list_lines}
use Rattle.rr_ical.specs.declared.listed.ListedDates.{ListedDates}
use Rattle.rr_model.specs.declared.refusal.Refusal.{Refusal}

-- no line is left
pub nothing_left : (number : ℕ) (so_far : ListedDates) (text : List ℕ) (all : Result ListedDates Refusal) → text ≡ []
    → with_list_lines number so_far (physical_lines text) ≡ all → all ≡ Ok so_far
unfolding physical_lines
nothing_left number so_far text all e so_far_is = sym so_far_is ∙ ap (λ (t : List ℕ). with_list_lines number so_far (physical_lines t)) e
