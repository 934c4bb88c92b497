use Rattle.std.proofs.Common.{[], ap, ◌∙◌, sym}
use Rattle.rr_model.specs.Sets.DescriptorText.{set_lines, text_of_lines}
use Rattle.rr_canon.specs.Versions.{set_line_of}
use Rattle.rr_canon.proofs.AppendLemmas.{appended_as, nothing_appended}
use Rattle.rr_canon.proofs.DescribeLemmas.{no_lines}
use Rattle.rr_canon.proofs.text.write_sets.Goals as goal

pub returns-in-Days : goal.returns-in-Days
returns-in-Days g c =
    appended_as _ _ _ _ (no_lines [] ∙ ap (λ k. text_of_lines (set_lines (set_line_of c.args.version) k c.args.sets.now)) (sym c.in-Days.is))
    (nothing_appended (g.W.Write.contents c.args.out.now))
