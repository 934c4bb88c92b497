-- What holds of the words of a rule as far as they are read (vCalendar 1.0, basic recurrence rule grammar).
use Rattle.std.specs.Prelude.{◌≡◌, ◌≤◌, true, ℤ, nat_abs, length, All}
use Rattle.std.specs.Option.{IfSome}
use Rattle.rr_model.specs.Vcal.Validity.{IsItemOf}
use Rattle.rr_model.specs.declared.vcal.VRuleParts.{VRuleParts}
use Rattle.rr_text.specs.Stamps.{IsStamp}

-- a place of a weekday in a month
abbrev pub IsPlace : ℤ → Type 0
IsPlace n = (1 ≤ nat_abs n) × (nat_abs n ≤ 5)

-- the numbers lie in their ranges, and a weekday of a group left its items
pub record IsValidParts (parts : VRuleParts) : Type 0 where
  pub interval_low : 1 ≤ parts.interval
  pub interval_high : parts.interval ≤ 4_294_967_295
  pub items : All (IsItemOf parts.family) parts.items
  pub places : All IsPlace parts.places
  pub listed : parts.has_weekday ≡ true → 1 ≤ length parts.items
  pub count : IfSome parts.count (λ n. n ≤ 18_446_744_073_709_551_615)
  pub until : IfSome parts.until IsStamp
