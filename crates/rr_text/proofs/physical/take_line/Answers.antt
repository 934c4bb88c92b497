use Rattle.std.proofs.Common.{ℕ, List, length, ◌==◌, ap, ◌∙◌, sym}
use Rattle.std.proofs.lemmas.Bool.{false≢true}
use Rattle.rr_text.proofs.PhysicalLemmas.{cut_at, cut_at_end}
use Rattle.rr_text.proofs.physical.take_line.Goals as goal

pub returns-in-Some : goal.returns-in-Some
returns-in-Some c = rw c.without_return.ensures (cut_at c.args.text.now c.in-Some.end (sym c.in-Some.is ∙ c.feed_index.ensures))

pub returns-in-None-2 : goal.returns-in-None-2
returns-in-None-2 c =
    cut_at_end c.args.text.now (sym c.in-None-2.is ∙ c.feed_index.ensures)
    (λ e. false≢true (sym c.if-is_empty.false ∙ c.is_empty.ensures ∙ ap (λ (t : List ℕ). length t == 0) e))
