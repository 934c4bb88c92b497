use Rattle.std.proofs.Common.{◌≡◌, ℤ, List, ◌++◌, ap, ◌∙◌, FitsSigned, to_z, of_z, to_z-of_z, w64}
use Rattle.rr_model.specs.Moment.{day_part}
use Rattle.rr_wording.specs.Parts.{part_words}
use Rattle.rr_wording.specs.Rules.{days_words, every_words, rule_words, times_words, week_start_words}
use Rattle.rr_wording.specs.declared.part.Part.TheVariants.{Position}
use Rattle.rr_wording.proofs.PutLemmas.{put_last, put_next}
use Rattle.rr_wording.proofs.rule.push_rule.Goals as goal

pub returns : goal.returns
unfolding rule_words
returns c =
    let same = to_z-of_z c.ranges.start in
    let fits : FitsSigned w64 c.day_of.result = record { sfits = c.day_of.type_inv } in
    let day : to_z w64 (of_z w64 c.day_of.result) ≡ day_part c.args.kind c.args.start = to_z-of_z fits ∙ (rw same at c.day_of.ensures.value) in
    let rule = c.args.rule.now in
    let old = c.args.out.now.items in
    let every = every_words rule.freq rule.interval in
    let days = days_words rule (day_part c.args.kind c.args.start) in
    let times = times_words rule c.args.kind c.args.start in
    let positions = part_words Position rule.by_set_pos in
    let to_days =
    put_next old c.push_every.new.out.items c.push_days_of.new.out.items every days c.in_ok-push_every.ensures
    (c.in_ok-push_days_of.ensures ∙ ap (λ (d : ℤ). c.push_every.new.out.items ++ days_words rule d) day) in
    let to_times = put_next old c.push_days_of.new.out.items c.push_times.new.out.items (every ++ days) times to_days (rw same at c.in_ok-push_times.ensures) in
    let to_positions =
    put_next old c.push_times.new.out.items c.push_part.new.out.items ((every ++ days) ++ times) positions to_times
    (c.in_ok-push_part.ensures ∙ ap (λ (ns : List ℤ). c.push_times.new.out.items ++ part_words Position ns) c.as_slice.ensures.value) in
    put_last c.push_week_start.result c.push_week_start.new.out.items c.push_part.new.out.items old (((every ++ days) ++ times) ++ positions)
    (week_start_words rule) to_positions c.push_week_start.ensures
