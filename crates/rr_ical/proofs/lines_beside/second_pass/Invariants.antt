use Rattle.std.proofs.Common.{◌≡◌, length, drop}
use Rattle.rr_model.specs.Text.Passes.{nothing_beside}
use Rattle.rr_ical.specs.Kept.{values_beside}
use Rattle.rr_ical.proofs.lines_beside.second_pass.Given as goal

abbrev pub invariant-loop-value : goal.invariant-loop-value
invariant-loop-value g l =
    values_beside (g.L.RuleLanguage.beside l.setting.offset l.setting.start) l.setting.offset l.setting.start l.beside (drop (length l.yielded) l.fn.values)
    ≡ values_beside (g.L.RuleLanguage.beside l.setting.offset l.setting.start) l.setting.offset l.setting.start nothing_beside l.fn.values
