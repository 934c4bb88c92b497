-- The moments at which two sets of occurrences agree, and the first one that one of them alone has (RFC 5545, section 3.8.5.3).
use Rattle.std.specs.Prelude.{◌↔◌, Option, None, Some, List, ℤ, ◌≤ℤ◌, ◌<ℤ◌, ◌≡◌}
use Rattle.std.specs.List.{Contains}
use Rattle.rr_model.specs.Moment.{Occurrences}
use Rattle.rr_model.specs.Sets.Verdict.{HoldsOnlyOf}
use Rattle.rr_model.specs.declared.kind.Kind.TheVariants.{Moments}
use Rattle.rr_utc.specs.declared.only.Only.{Only}

-- the two have the same moments before this one
abbrev pub AgreeBefore : Occurrences → Occurrences → ℤ → Type 0
AgreeBefore P Q end = (t : ℤ) → t <ℤ end → P Moments t ↔ Q Moments t

-- the two have the same moments from one on and before another
abbrev pub AgreeBetween : Occurrences → Occurrences → ℤ → ℤ → Type 0
AgreeBetween P Q from end = (t : ℤ) → from ≤ℤ t → t <ℤ end → P Moments t ↔ Q Moments t

-- what is found from one moment on and before another is the first that one of the two alone has, with its side; none if they agree there
abbrev pub IsFirstBetween : Occurrences → Occurrences → ℤ → ℤ → Option Only → Type 0
IsFirstBetween P Q from end None = AgreeBetween P Q from end
IsFirstBetween P Q from end (Some only) =
    (from ≤ℤ only.at) × (only.at <ℤ end) × HoldsOnlyOf only.side (P Moments only.at) (Q Moments only.at) × AgreeBetween P Q from only.at

-- what is found is the least value that one of two lists alone has, with its side; none if they are the same
abbrev pub IsFirstOnly : List ℤ → List ℤ → Option Only → Type 0
IsFirstOnly xs ys None = xs ≡ ys
IsFirstOnly xs ys (Some only) =
    HoldsOnlyOf only.side (Contains xs only.at) (Contains ys only.at) × ((u : ℤ) → u <ℤ only.at → Contains xs u ↔ Contains ys u)
