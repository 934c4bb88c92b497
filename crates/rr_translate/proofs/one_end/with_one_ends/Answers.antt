use Rattle.std.proofs.Common.{map, refl, ap, ◌∙◌}
use Rattle.rr_model.proofs.BackLemmas.{in_years_back}
use Rattle.rr_translate.specs.OneEnd.{with_one_end, with_one_ends}
use Rattle.rr_translate.proofs.one_end.with_one_ends.Goals as goal

pub returns : goal.returns
unfolding with_one_ends
returns c =
    let s = c.args.series.now in
    let start = in_years_back s.kind s.start c.requires.sound.valid.start in
    let rules = c.in_ok-rules_with_one_end.ensures ∙ ap (λ z. map (with_one_end s.kind z) c.as_slice.result.now) start
    ∙ ap (map (with_one_end s.kind s.start)) c.as_slice.ensures in
    let excluded = c.in_ok-rules_with_one_end-2.ensures ∙ ap (λ z. map (with_one_end s.kind z) c.as_slice-2.result.now) start
    ∙ ap (map (with_one_end s.kind s.start)) c.as_slice-2.ensures in
    rw (start, rules, excluded, c.in_ok-copy.ensures, c.in_ok-copy-2.ensures) refl
