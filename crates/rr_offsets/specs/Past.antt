-- When all that a zone states is over but for its endless rules (RFC 5545, section 3.6.5).
use Rattle.std.specs.Prelude.{⊤, ℕ, ℤ, pos, neg_ℤ, ◌+ℤ◌, ◌-ℤ◌, ◌*ℤ◌, ◌≤ℤ◌, ◌<ℤ◌, List, All}
use Rattle.rr_model.specs.declared.rule.End.{End}
use Rattle.rr_model.specs.declared.rule.End.TheVariants.{Never, Until, Count, Both}
use Rattle.rr_model.specs.declared.rule.Rule.{Rule}
use Rattle.rr_zone.specs.Tables.{IsLastDay}
use Rattle.rr_zone.specs.declared.observance.Observance.{Observance}

-- 400 years, in seconds
abbrev pub zone_cycle : ℕ
zone_cycle = 12_622_780_800

-- a moment of local time, so far ahead of UTC, comes before a moment of UTC
abbrev pub LiesBefore : ℤ → ℤ → ℤ → Type 0
LiesBefore from p t = (t -ℤ from) <ℤ p

-- an end is not stated, or comes before a moment of UTC
abbrev pub EndsBefore : ℤ → ℤ → End → Type 0
EndsBefore from p Never = ⊤
EndsBefore from p (Until kind at) = LiesBefore from p at
EndsBefore from p (Count count) = ⊤
EndsBefore from p (Both kind at count) = LiesBefore from p at

-- the ends of these rules come before a moment of UTC
abbrev pub HaveEnds : ℤ → ℤ → List Rule → Type 0
HaveEnds from p rules = All (λ rule. EndsBefore from p rule.end) rules

-- the start, the dates and the ends of an observance come before a moment of UTC
pub record IsOver (p : ℤ) (o : Observance) : Type 0 where
  pub start : LiesBefore o.from p o.series.start
  pub plus : All (LiesBefore o.from p) o.series.plus
  pub rules : HaveEnds o.from p o.series.rules

-- so of each observance of a zone
abbrev pub AreOver : ℤ → List Observance → Type 0
AreOver p zone = All (IsOver p) zone

-- a moment of UTC from 0001-01-01 to 3000-01-02
pub record IsPastMoment (p : ℤ) : Type 0 where
  pub late : neg_ℤ (pos 62_135_596_800) ≤ℤ p
  pub early : p ≤ℤ pos 32_503_766_400

-- a moment of UTC is not before another one
pub record IsLaterPast (old new : ℤ) : Type 0 where
  pub from : old ≤ℤ new
  pub moment : IsPastMoment new

-- a day up to which onsets can be listed, and that begins 400 years after a moment or later
pub record IsDayAfterCycle (p day : ℤ) : Type 0 where
  pub last : IsLastDay day
  pub late : (p +ℤ pos zone_cycle) ≤ℤ (day *ℤ pos 86_400)
  pub low : neg_ℤ (pos 1_000_000) ≤ℤ day
  pub early : day ≤ℤ pos 1_000_000
