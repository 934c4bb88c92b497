-- How a range ends, as the code has it and as the reading says it (Microsoft Graph, recurrenceRange, type).
use Rattle.std.specs.Prelude.{codes, ok_or, option_and_then, Result}
use Rattle.serde_json.specs.Data.{Data}
use Rattle.rr_model.specs.Graph.Members.{text_in}
use Rattle.rr_model.specs.Graph.Reading.{EndType, end_type_named, no_end, end_date, numbered}
use Rattle.rr_model.specs.declared.refusal.Member.TheVariants.{RangeType}
use Rattle.rr_model.specs.declared.refusal.Refusal.{Refusal}
use Rattle.rr_model.specs.declared.refusal.Refusal.TheVariants.{BadMember}
use Rattle.rr_graph.specs.declared.range.EndKind.{EndKind}
use Rattle.rr_graph.specs.declared.range.EndKind.TheVariants.{NoEnd, EndDate, Numbered}

-- the type that a range states
abbrev pub end_type_in : Data → Result EndType Refusal
end_type_in range = ok_or (option_and_then end_type_named (text_in (codes "type") range)) (BadMember RangeType)

-- the type of the reading that a type of the code is
abbrev pub end_type : EndKind → EndType
end_type NoEnd = no_end
end_type EndDate = end_date
end_type Numbered = numbered
