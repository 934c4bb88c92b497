use Rattle.std.proofs.Common.{ℕ, false, sym, ap, length, length-drop, arith}
use Rattle.rr_events.proofs.ParameterLemmas.{after_colon-shorter}
use Rattle.rr_zone.proofs.line.utc_line.Goals as goal

pub before-requires : goal.before-requires
before-requires c =
    omega (
      arith,
      after_colon-shorter false c.name_and_rest.result.1.now c.in-Some.value.now (sym c.in-Some.ensures),
      ap length c.name_and_rest.ensures.rest,
      length-drop {A = ℕ},
    )
