use Rattle.std.proofs.Common.{of_z, to_z, w32}
use Rattle.rr_json.proofs.TextLemmas.{offset_utf8, utf8_of}
use Rattle.rr_json.proofs.files.offset_value.Goals as goal

pub utf8_value-requires : goal.utf8_value-requires
utf8_value-requires c = utf8_of _ _ _ _ c.deref.ensures.value c.in_ok-push_offset-in-Some.ensures c.new-text.ensures.items (offset_utf8 (to_z w32 (of_z w32 c.in-Some.offset)))
