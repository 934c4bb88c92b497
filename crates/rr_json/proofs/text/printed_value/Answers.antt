use Rattle.std.proofs.Common.{ℕ, List, IsUtf8, sym, subst}
use Rattle.rr_trip.specs.Printed.{uid_text}
use Rattle.rr_json.proofs.TextLemmas.{bytes_of, printed_utf8, utf8_of}
use Rattle.rr_json.proofs.text.printed_value.Goals as goal

pub utf8_value-requires : goal.utf8_value-requires
utf8_value-requires c =
    utf8_of _ _ _ (uid_text c.in_ok-of.field-0) c.deref.ensures.value c.in_ok-push_key.ensures c.new-printed.ensures.items
    (subst (λ (text : List ℕ). IsUtf8 (uid_text text)) (sym c.in_ok-of.ensures)
    (printed_utf8 c.args.text.now (bytes_of c.args.text.now c.type_inv.text)))
