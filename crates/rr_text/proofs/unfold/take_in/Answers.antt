use Rattle.std.proofs.Common.{◌≡◌, List, ℕ, [], ◌∷◌, ◌++◌, ap, sym, ◌∙◌}
use Rattle.std.proofs.lemmas.Result.{on_ok_weaker}
use Rattle.rr_text.proofs.UnfoldLemmas.{continued}
use Rattle.rr_text.proofs.unfold.take_in.Goals as goal

pub returns-then-begins_blank : goal.returns-then-begins_blank
returns-then-begins_blank c =
    on_ok_weaker c.append.result
    (λ put. ap (λ (t : List ℕ). c.args.done.now ++ record { number = c.args.last.now.number; text = t } ∷ []) (put
    ∙ ap (λ (t : List ℕ). c.args.last.now.text ++ t) c.continuation.ensures)
    ∙ continued c.args.keep_blank c.args.number c.args.done.now c.args.last.now c.args.text.now (sym c.begins_blank.ensures ∙ c.if-begins_blank.true))
    c.append.ensures.ok
