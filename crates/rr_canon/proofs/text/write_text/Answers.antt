use Rattle.std.proofs.Common.{◌++◌, ◌∷◌, [], refl}
use Rattle.std.proofs.lemmas.Result.{on_ok_weaker}
use Rattle.rr_model.specs.Sets.Descriptor.{descriptor}
use Rattle.rr_model.specs.Sets.DescriptorText.{text_of_lines}
use Rattle.rr_canon.specs.Least.{least_sketch}
use Rattle.rr_canon.specs.Versions.{lines_in, set_line_of, title_of}
use Rattle.rr_canon.proofs.AppendLemmas.{appended_as, two_appended}
use Rattle.rr_canon.proofs.SaidLemmas.{whole_text}
use Rattle.rr_canon.proofs.text.write_text.Goals as goal

pub returns : goal.returns
returns g c =
    let contents = g.W.Write.contents in
    let s = least_sketch c.args.least.now in
    let line = text_of_lines (c.title.result.now ∷ []) in
    let rest = text_of_lines (lines_in c.args.version (descriptor s)) in
    on_ok_weaker c.write_said.result
    (λ e. appended_as _ _ _ _ (whole_text (set_line_of c.args.version) s (title_of c.args.version) c.title.result.now [] line (line ++ rest) refl
    c.title.ensures refl refl)
    (two_appended (contents c.args.out.now) (contents c.write_line.new.out) (contents c.write_said.new.out) line rest c.in_ok-write_line.ensures e))
    c.write_said.ensures
