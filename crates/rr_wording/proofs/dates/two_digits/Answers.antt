use Rattle.std.proofs.Common.{sym}
use Rattle.rr_text.proofs.PrintLemmas.{padded_two}
use Rattle.rr_wording.proofs.dates.two_digits.Goals as goal

pub returns : goal.returns
returns c = sym (padded_two c.args.value c.requires)
