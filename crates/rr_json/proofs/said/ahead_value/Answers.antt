use Rattle.rr_json.proofs.TextLemmas.{ahead_utf8, utf8_of}
use Rattle.rr_json.proofs.said.ahead_value.Goals as goal

pub utf8_value-requires : goal.utf8_value-requires
utf8_value-requires c = utf8_of _ _ _ _ c.deref.ensures.value c.in_ok-push_ahead.ensures c.new-text.ensures.items (ahead_utf8 c.args.ahead)
