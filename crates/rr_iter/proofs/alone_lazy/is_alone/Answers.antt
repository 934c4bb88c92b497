use Rattle.std.proofs.Common.{◌≡◌, true, [], sym, ◌∙◌}
use Rattle.std.proofs.lemmas.Bool.{eqb-true, false≢true}
use Rattle.rr_model.proofs.WithValueLemmas.{absent_nil}
use Rattle.rr_iter.proofs.AloneLemmas.{one_rule}
use Rattle.rr_iter.proofs.alone_lazy.is_alone.Goals.{then-len-eq1, else-len-eq1, then-series, else-series, then-is_empty, else-is_empty}
use Rattle.rr_iter.proofs.alone_lazy.is_alone.Goals as goal

pub returns-then-is_empty-2 : goal.returns-then-is_empty-2
returns-then-is_empty-2 c h =
    let series = c.args.series.now in
    let of_plus : (c.if-series.value ≡ true) × (series.plus ≡ []) = elim c.if-is_empty.branch [
      | then-is_empty w ↦
          (w.if-is_empty.true, absent_nil series.plus (sym w.is_empty-then-is_empty.ensures ∙ sym w.value-is ∙ c.if-is_empty-2.true))
      | else-is_empty w ↦ absurd (false≢true (sym w.if-is_empty.false ∙ sym w.value-is ∙ c.if-is_empty-2.true))
    ] in
    let of_excluded : (c.if-len-eq1.value ≡ true) × (series.excluded ≡ []) = elim c.if-series.branch [
      | then-series w ↦ (w.if-series.true, absent_nil series.excluded (sym w.is_empty.ensures ∙ sym w.value-is ∙ of_plus.0))
      | else-series w ↦ absurd (false≢true (sym w.if-series.false ∙ sym w.value-is ∙ of_plus.0))
    ] in
    let of_rules : (c.len.result ≡ 1) × (series.start_counts ≡ true) = elim c.if-len-eq1.branch [
      | then-len-eq1 w ↦ (w.if-len-eq1.true, sym w.value-is ∙ of_excluded.0)
      | else-len-eq1 w ↦ absurd (w.if-len-eq1.false (eqb-true c.len.result 1 (sym w.value-is ∙ of_excluded.0)))
    ] in
    let one = one_rule series.rules (sym c.len.ensures ∙ of_rules.0) in
    record {
      rule = one.0;
      rules = one.1;
      excluded = of_excluded.1;
      plus = of_plus.1;
      minus = absent_nil series.minus (sym c.is_empty-then-is_empty-2.ensures ∙ h);
      start_counts = of_rules.1;
    }
