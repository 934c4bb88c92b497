-- The function says what the relation says.
use Rattle.rr_model.specs.declared.rule.Series.{Series}
use Rattle.rr_lenient.specs.Lenient.{IsLenient}
use Rattle.rr_lenient.specs.Read.{read_of}

-- A series read as the function has it is read leniently.
abbrev pub ReadIsLenient : Type 0
ReadIsLenient = (given : Series) → IsLenient given (read_of given).series (read_of given).until (read_of given).start
