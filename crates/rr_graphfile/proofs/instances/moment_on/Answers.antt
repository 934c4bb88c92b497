use Rattle.std.proofs.Common.{w64}
use Rattle.std.proofs.lemmas.Int.{to_z-of_z}
use Rattle.rr_model.specs.declared.kind.Kind.TheVariants.{Days}
use Rattle.rr_model.proofs.StartLemmas.{IsDayWithin-start}
use Rattle.rr_graphfile.proofs.instances.moment_on.Goals as goal

pub moment_at-requires : goal.moment_at-requires
moment_at-requires c = rw (to_z-of_z w64 c.args.day c.ranges.day) (IsDayWithin-start 1000 Days c.args.day c.requires)
