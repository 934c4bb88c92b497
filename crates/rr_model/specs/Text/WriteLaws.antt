-- What can be written in RFC 5545 (section 3.3.10).
use Rattle.std.specs.Prelude.{⊤}
use Rattle.rr_model.specs.declared.rule.End.{End}
use Rattle.rr_model.specs.declared.rule.End.TheVariants.{Both}

-- an end that RFC 5545 has words for
abbrev pub IsOneEnd : End → Type 0
IsOneEnd (Both kind at count) = ⊥
IsOneEnd end = ⊤
