use Rattle.std.proofs.Common.{◌≡◌, drop}
use Rattle.rr_model.specs.Vcal.Rule.{put_places}
use Rattle.rr_vcal.proofs.items.put_places.Given as goal

abbrev pub invariant-loop-place : goal.invariant-loop-place
invariant-loop-place l = put_places l.items l.weekday (drop l.place-index l.places) ≡ put_places l.fn.items l.weekday l.places
