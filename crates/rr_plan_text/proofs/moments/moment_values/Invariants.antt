use Rattle.std.specs.Prelude.{◌≡◌, map, take}
use Rattle.serde_json.specs.View.{view}
use Rattle.rr_plan_text.specs.PlanText.{moment_json}
use Rattle.rr_plan_text.proofs.moments.moment_values.Given as goal

-- the dates or moments so far have their values
abbrev pub invariant-loop-time : goal.invariant-loop-time
invariant-loop-time l = map view l.values.items ≡ map (moment_json l.kind) (take l.time-index l.times)
