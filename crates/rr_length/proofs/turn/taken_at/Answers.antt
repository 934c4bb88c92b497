use Rattle.std.proofs.Common.{rules, ◌≡◌, ◌∙◌, get_or, pos, FitsSigned, w64, to_z, of_z, to_z-of_z, sym, ap}
use Rattle.rr_length.specs.declared.lengths.Dated.{Dated}
use Rattle.rr_length.proofs.WalkLemmas.{near_rest, none_there, taken_there}
use Rattle.rr_length.proofs.turn.taken_at.Goals as goal

-- what an index past the end would give
abbrev nowhere : Dated
nowhere = record { at = pos 0; length = record { days = 0; seconds = 0 } }

pub returns-then-first-date-clause-taken : goal.returns-then-first-date-clause-taken
returns-then-first-date-clause-taken c =
    let first = get_or c.args.dated.now 0 nowhere in
    let fits : FitsSigned w64 first.at = search rules in
    let here : first.at ≡ c.args.date = sym (to_z-of_z fits) ∙ ap (to_z w64) c.if-first-date.true ∙ to_z-of_z c.ranges.date in
    taken_there c.args.usual c.args.dated.now c.args.date nowhere c.in-len1-up.len_at_least c.requires.rising here

pub returns-then-first-date-clause-near : goal.returns-then-first-date-clause-near
returns-then-first-date-clause-near c = near_rest c.args.dated.now c.in-len1-up.len_at_least

pub returns-else-first-date-clause-taken : goal.returns-else-first-date-clause-taken
returns-else-first-date-clause-taken c =
    none_there c.args.usual c.args.dated.now c.args.date nowhere c.in-len1-up.len_at_least c.requires.rising c.requires.begin
    (λ e. c.if-first-date.false (ap (of_z w64) e))
