-- The items of a line of version 2.
use Rattle.std.specs.Prelude.{◌≡◌, ◌⊎◌, ◌<◌, ◌≤◌, ◌^◌}
use Rattle.rr_model.specs.Sets.Stretches.{Stretch}

-- an item as it is printed: a single second, or a row of three at least; all its numbers are small
pub record IsPrintedItem (x : Stretch) : Type 0 where
  pub start : x.start < 2 ^ 64
  pub step : x.step < 2 ^ 64
  pub count : x.count < 2 ^ 64
  pub form : ((x.count ≡ 1) × (x.step ≡ 0)) ⊎ (3 ≤ x.count)
