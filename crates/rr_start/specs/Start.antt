-- Series whose start their rule does not choose (RFC 5545, section 3.8.5.3, calls them undefined), and how they are restated.
use Rattle.std.specs.Prelude.{◌≡◌, ◌+◌, ◌<◌, Bool, true, false, IsTrue, ⊤, [], ◌∷◌, length, int_lt, ℤ, ◌≤ℤ◌, ◌<ℤ◌}
use Rattle.rr_model.specs.Moment.Years.{IsInYears}
use Rattle.rr_model.specs.Rising.{with_value}
use Rattle.rr_model.specs.Rule.Chosen.{is_chosen}
use Rattle.rr_model.specs.declared.kind.Kind.{Kind}
use Rattle.rr_model.specs.declared.limits.TheConstants.{MAX_DATES}
use Rattle.rr_model.specs.declared.rule.End.{End}
use Rattle.rr_model.specs.declared.rule.End.TheVariants.{Never, Until, Count, Both}
use Rattle.rr_model.specs.declared.rule.Rule.{Rule}
use Rattle.rr_model.specs.declared.rule.Series.{Series}

-- t is the first moment after the start that the rule chooses from the start (section 3.3.10)
pub record IsFirstChosen (rule : Rule) (kind : Kind) (start t : ℤ) : Type 0 where
  pub later : start <ℤ t
  pub chosen : IsTrue (is_chosen rule kind start t)
  pub least : (u : ℤ) → start <ℤ u → IsTrue (is_chosen rule kind start u) → t ≤ℤ u

-- the end of a rule has no COUNT, and its UNTIL, if it has one, is of the kind and not before t (section 3.3.10)
abbrev pub ReachesUncounted : Kind → ℤ → End → Type 0
ReachesUncounted kind t Never = ⊤
ReachesUncounted kind t (Until other at) = (other ≡ kind) × (t ≤ℤ at)
ReachesUncounted kind t (Count count) = ⊥
ReachesUncounted kind t (Both other at count) = ⊥

-- The start counts and the one rule of the series does not choose it, but chooses `first` after it, as the first moment; nothing is excluded by a rule.
pub record IsStartOff (series : Series) (first : ℤ) : Type 0 where
  pub counts : series.start_counts ≡ true
  pub rule : Rule
  pub one_rule : series.rules ≡ rule ∷ []
  pub no_excluded : series.excluded ≡ []
  pub not_chosen : is_chosen rule series.kind series.start series.start ≡ false
  pub first_chosen : IsFirstChosen rule series.kind series.start first
  pub reaches : ReachesUncounted series.kind first rule.end
  pub in_years : IsInYears series.kind first
  pub room : length series.plus + length series.minus < MAX_DATES

-- the series from another start on, with the old start as one of its dates added (section 3.8.5.2)
abbrev pub restated : Series → ℤ → Series
restated series first = record series { start = first; plus = with_value int_lt series.plus series.start }

-- The given series read anew: restated from the first moment chosen if its start is off, and otherwise as it is.
abbrev pub IsReread : Series → Series → Bool → Type 0
IsReread given read true = (first : ℤ) × IsStartOff given first × (read ≡ restated given first)
IsReread given read false = (read ≡ given) × ((first : ℤ) → IsStartOff given first → ⊥)
