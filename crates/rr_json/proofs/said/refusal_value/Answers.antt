use Rattle.rr_json.proofs.TextLemmas.{key_refusal_utf8, utf8_of}
use Rattle.rr_json.proofs.said.refusal_value.Goals as goal

pub utf8_value-requires : goal.utf8_value-requires
utf8_value-requires c = utf8_of _ _ _ _ c.deref.ensures.value c.in_ok-push_key_refusal.ensures c.new-text.ensures.items (key_refusal_utf8 c.args.refusal)
