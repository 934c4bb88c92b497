-- The end of a rule beside its start (RFC 5545, section 3.3.10), and what stands between dates (section 3.8.5).
use Rattle.std.specs.Prelude.{ℕ, ◌==◌, Bool, if◌then◌else◌, ℤ, Option, None, Some, Result, Ok}
use Rattle.rr_model.specs.declared.refusal.Refusal.{Refusal}
use Rattle.rr_model.specs.declared.rule.End.{End}
use Rattle.rr_model.specs.declared.rule.End.TheVariants.{Until, Both}
use Rattle.rr_model.specs.declared.stamp.Stamp.{Stamp}
use Rattle.rr_model.specs.Text.RuleValues.{◌>>=◌}
use Rattle.rr_model.specs.Text.Passes.{moment_beside}

-- the end at another moment of its kind
abbrev pub end_at : End → ℤ → End
end_at (Until kind at) t = Until kind t
end_at (Both kind at count) t = Both kind t count
end_at end t = end

-- the end of a rule with its UNTIL, if it has one, as a moment beside the start, or the refusal
abbrev pub end_beside : Option ℤ → Stamp → ℕ → Option Stamp → End → Result End Refusal
end_beside offset start line None end = Ok end
end_beside offset start line (Some stamp) end = moment_beside offset start line stamp >>= λ at. Ok (end_at end at)

-- dates of RDATE and EXDATE stand between commas
abbrev pub is_comma : ℕ → Bool
is_comma b = b == 44
