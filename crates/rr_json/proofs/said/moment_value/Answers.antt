use Rattle.std.proofs.Common.{of_z, to_z, w64}
use Rattle.rr_json.proofs.TextLemmas.{moment_utf8, utf8_of}
use Rattle.rr_json.proofs.said.moment_value.Goals as goal

pub utf8_value-requires : goal.utf8_value-requires
utf8_value-requires c = utf8_of _ _ _ _ c.deref.ensures.value c.in_ok-push_extended.ensures.ok c.new-text.ensures.items (moment_utf8 c.args.kind (to_z w64 (of_z w64 c.args.at)))
