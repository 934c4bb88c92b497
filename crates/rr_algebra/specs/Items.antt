-- What is found if a text begins with the items of a time set. Nothing is said of other texts.
use Rattle.std.specs.Prelude.{◌≡◌, ℕ, ◌≤◌, false, List, [], ◌∷◌, ◌++◌, ⊤, Result, Ok, Err}
use Rattle.std.specs.List.{All}
use Rattle.rr_model.specs.Rising.Sets.{IsSecondsOfDay}
use Rattle.rr_model.specs.Sets.Stretches.{Stretch, item_text, items_text, seconds_from, seconds_of}
use Rattle.rr_model.specs.declared.refusal.Fault.{Fault}
use Rattle.rr_model.specs.declared.refusal.Fault.TheVariants.{Refused, NoMemory}
use Rattle.rr_model.specs.declared.refusal.Refusal.TheVariants.{NotCanonical}
use Rattle.rr_canon.specs.Items.{IsPrintedItem}
use Rattle.rr_algebra.specs.Found.{EndsDigits, begins_with}

-- neither a digit nor a slash comes next
pub record EndsItem (rest : List ℕ) : Type 0 where
  pub no_digit : EndsDigits rest
  pub no_slash : begins_with 47 rest ≡ false

-- a refusal comes only if this is false
abbrev pub IsFaultWhereNot : Type 0 → Fault → Type 0
IsFaultWhereNot P (Refused refusal) = (refusal ≡ NotCanonical) × (P → ⊥)
IsFaultWhereNot P NoMemory = ⊤

-- what is answered is refused only if this is false
abbrev pub RefusedWhereNot : {X : Type 0} → Type 0 → Result X Fault → Type 0
RefusedWhereNot P (Ok x) = ⊤
RefusedWhereNot P (Err fault) = IsFaultWhereNot P fault

-- the seconds, and then those of `more`, are the front of the seconds of a day
abbrev pub GoOn : List ℕ → List ℕ → Type 0
GoOn seconds more = (rest : List ℕ) × IsSecondsOfDay (seconds ++ (more ++ rest))

-- a refusal comes only if the second does not go on with these
abbrev pub RefusedWhereNotNext : {X : Type 0} → List ℕ → ℕ → Result X Fault → Type 0
RefusedWhereNotNext old second result = RefusedWhereNot (GoOn old (second ∷ [])) result

-- a refusal comes only if the row is short or does not go on with these
abbrev pub RefusedWhereNoRow : {X : Type 0} → List ℕ → ℕ → ℕ → ℕ → Result X Fault → Type 0
RefusedWhereNoRow old start step count result = RefusedWhereNot ((3 ≤ count) × GoOn old (seconds_from start step count)) result

-- the seconds of the item after a blank are added, and what follows is found
abbrev pub FindsItem : List ℕ → List ℕ → List ℕ → List ℕ → Type 0
FindsItem text old after new =
    (item : Stretch) (rest : List ℕ) → IsPrintedItem item → EndsItem rest → text ≡ 32 ∷ (item_text item ++ rest)
    → (after ≡ rest) × (new ≡ old ++ seconds_from item.start item.step item.count)

-- the text begins with an item whose seconds go on with these
pub record BeginsItem (text old : List ℕ) : Type 0 where
  pub item : Stretch
  pub rest : List ℕ
  pub printed : IsPrintedItem item
  pub ends : EndsItem rest
  pub text_is : text ≡ 32 ∷ (item_text item ++ rest)
  pub go_on : GoOn old (seconds_from item.start item.step item.count)

-- a refusal comes only if the text begins with no such item
abbrev pub RefusedWhereNoItem : {X : Type 0} → List ℕ → List ℕ → Result X Fault → Type 0
RefusedWhereNoItem text old result = RefusedWhereNot (BeginsItem text old) result

-- the seconds of a line are found, and what follows it
abbrev pub FindsSeconds : List ℕ → List ℕ → List ℕ → Type 0
FindsSeconds text seconds after =
    (items : List Stretch) (rest : List ℕ) → All IsPrintedItem items → text ≡ 116 ∷ (items_text items ++ (10 ∷ rest))
    → (seconds ≡ seconds_of items) × (after ≡ rest)

-- the text begins with the line of a time set
pub record BeginsSeconds (text : List ℕ) : Type 0 where
  pub items : List Stretch
  pub rest : List ℕ
  pub printed : All IsPrintedItem items
  pub text_is : text ≡ 116 ∷ (items_text items ++ (10 ∷ rest))
  pub of_day : IsSecondsOfDay (seconds_of items)

-- a refusal comes only if the text begins with no line of a time set
abbrev pub RefusedWhereNoSeconds : {X : Type 0} → List ℕ → Result X Fault → Type 0
RefusedWhereNoSeconds text result = RefusedWhereNot (BeginsSeconds text) result
