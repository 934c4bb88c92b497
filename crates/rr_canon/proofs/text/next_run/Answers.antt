use Rattle.std.proofs.Common.{[], ◌∷◌, sym, ◌∙◌, refl}
use Rattle.std.proofs.lemmas.Bool.{false≢true}
use Rattle.rr_model.specs.Sets.DescriptorText.{run_line, text_of_lines}
use Rattle.rr_canon.proofs.AppendLemmas.{nothing_appended}
use Rattle.rr_canon.proofs.DescribeLemmas.{next_longer, next_new}
use Rattle.rr_canon.proofs.text.next_run.Goals as goal

pub returns-then-same : goal.returns-then-same
returns-then-same g c =
    let run = c.args.run in
    let both = c.goes_on-same.ensures.0 c.if-same.true in (
      [],
      nothing_appended (g.W.Write.contents c.args.out.now),
      next_longer c.args.letter run.gap run.set run.count c.args.gap c.args.set [] both.0 both.1,
    )

pub returns : goal.returns
returns g c =
    let run = c.args.run in
    let line = text_of_lines (run_line c.args.letter (record { gap = run.gap; set = run.set; count = run.count }) ∷ []) in (
      line,
      c.in_ok-write_run.ensures,
      next_new c.args.letter run.gap run.set run.count c.args.gap c.args.set [] line
          (λ e. false≢true (sym c.if-same.false ∙ c.goes_on-same.ensures.1 e)) refl,
    )
