use Rattle.std.proofs.Common.{rules, refl, ◌≡◌, ◌∙◌, ◌-ℤ◌, FitsSigned, w32, w64, to_z, of_z, to_z-of_z, arith}
use Rattle.std.proofs.lemmas.Int.{ints}
use Rattle.rr_zone.specs.Onsets.{earliest}
use Rattle.rr_zone.specs.Tables.{IsNear}
use Rattle.rr_zone.proofs.NearLemmas.{earliest-near}
use Rattle.rr_zone.proofs.onsets.first_onset.Goals.{After-from}
use Rattle.rr_zone.proofs.onsets.first_onset.Goals as goal

record Parts (c : After-from) : Type 0 where
  first : c.earliest-first.result ≡ earliest c.args.observance.now.series.plus c.args.observance.now.series.start
  near : IsNear c.earliest-first.result
  from : c.from.result ≡ c.args.observance.now.from
  first_fits : to_z w64 (of_z w64 c.earliest-first.result) ≡ c.earliest-first.result
  from_fits : to_z w64 (of_z w64 c.from.result) ≡ c.from.result

parts : (c : After-from) → Parts c
parts c =
    let start : FitsSigned w64 c.args.observance.now.series.start = search rules in
    let from : FitsSigned w32 c.args.observance.now.from = search rules in
    let one : FitsSigned w64 c.earliest-first.result = record { sfits = c.earliest-first.type_inv } in
    let two : FitsSigned w64 c.from.result = record { sfits = c.from.type_inv } in
    let e : c.earliest-first.result ≡ earliest c.args.observance.now.series.plus c.args.observance.now.series.start =
    rw (c.as_slice.ensures.value, to_z-of_z start) at c.earliest-first.ensures in
    record {
      first = e;
      near = rw e (earliest-near c.args.observance.now.series c.requires.kind c.requires.valid);
      from = rw (to_z-of_z from) at c.from.ensures;
      first_fits = to_z-of_z one;
      from_fits = to_z-of_z two;
    }

pub overflow_sub-result : goal.overflow_sub-result
overflow_sub-result c =
    let p = parts c in
    omega (arith, ints, p.near.low, p.near.high, p.from, p.first_fits, p.from_fits, c.requires.from.low, c.requires.from.high)

pub returns : goal.returns
returns c =
    let p = parts c in
    let whole : to_z w64 (of_z w64 (to_z w64 (of_z w64 c.earliest-first.result) -ℤ to_z w64 (of_z w64 c.from.result)))
    ≡ c.earliest-first.result -ℤ c.from.result =
    omega (arith, ints, p.near.low, p.near.high, p.from, p.first_fits, p.from_fits, c.requires.from.low, c.requires.from.high) in
    whole ∙ rw (p.first, p.from) refl
