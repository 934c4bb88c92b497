use Rattle.std.proofs.Common.{◌≡◌, length}
use Rattle.rr_model.specs.Text.Lines.{physical_lines}
use Rattle.rr_compare.specs.Languages.{is_version_one, version_from}
use Rattle.rr_compare.proofs.language.is_version_one.Given as goal

-- the lines from here on are left
abbrev pub invariant-loop-line : goal.invariant-loop-line
invariant-loop-line l = is_version_one l.text ≡ version_from l.is_begun (physical_lines l.rest)

abbrev pub decreases-loop-line : goal.decreases-loop-line
decreases-loop-line l = length l.rest
