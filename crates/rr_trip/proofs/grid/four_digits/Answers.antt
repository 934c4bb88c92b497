use Rattle.std.proofs.Common.{sym}
use Rattle.rr_text.proofs.PrintLemmas.{padded_four}
use Rattle.rr_trip.proofs.grid.four_digits.Goals as goal

pub returns : goal.returns
returns c = sym (padded_four c.args.value c.requires)
