use Rattle.rr_json.proofs.TextLemmas.{file_refusal_utf8, utf8_behind_first}
use Rattle.rr_json.proofs.print.file_refusal_value.Goals as goal

pub utf8_value-requires : goal.utf8_value-requires
utf8_value-requires c =
    utf8_behind_first _ _ _ _ c.deref.ensures.value c.in_ok-push_file_refusal.ensures c.new-text.ensures.items (file_refusal_utf8 c.args.refusal)
