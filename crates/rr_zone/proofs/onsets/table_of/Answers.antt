use Rattle.std.proofs.Common.{rules, ◌∙◌, FitsSigned, w32, w64, to_z-of_z}
use Rattle.rr_zone.proofs.onsets.table_of.Goals as goal

pub returns : goal.returns
returns c =
    let from : FitsSigned w32 c.args.observance.now.from = search rules in
    let to : FitsSigned w32 c.args.observance.now.to = search rules in
    let first : FitsSigned w64 c.first_onset.result = record { sfits = c.first_onset.type_inv } in
    record {
      onsets = rw (to_z-of_z from, to_z-of_z c.ranges.last) at c.in_ok-onsets_of.ensures;
      first = to_z-of_z first ∙ c.first_onset.ensures;
      from = to_z-of_z from;
      to = to_z-of_z to;
      below = c.requires.sound.from;
    }
