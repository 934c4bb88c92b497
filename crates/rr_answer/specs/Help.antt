-- What is said of the program itself, by the words that ask for it.
use Rattle.std.specs.Prelude.{ℕ, List, [], ◌∷◌, Option, Some, None}
use Rattle.rr_answer.specs.Pages.{explanation_of, help, help_of, version}

-- `help`: the page of all commands, or that of the command of this name
abbrev pub help_page : List (List ℕ) → Option (List ℕ)
help_page [] = Some help
help_page (name ∷ []) = help_of name
help_page (name ∷ next ∷ words) = None

-- `version`: the release
abbrev pub version_page : List (List ℕ) → Option (List ℕ)
version_page [] = Some version
version_page (name ∷ words) = None

-- `explain`: the page of the refusal of this name
abbrev pub explain_page : List (List ℕ) → Option (List ℕ)
explain_page (name ∷ []) = explanation_of name
explain_page words = None
