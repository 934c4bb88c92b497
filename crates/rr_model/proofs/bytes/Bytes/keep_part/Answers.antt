use Rattle.std.proofs.Common.{◌≡◌, ◌+◌, ◌-◌, length, take, drop, sym, ap, ◌∙◌, arith, length-drop}
use lib.Seq.{paste}
use Rattle.std.proofs.lemmas.List.Edits.{take-paste}
use Rattle.rr_model.proofs.bytes.Bytes.keep_part.Goals as goal

pub returns : goal.returns
returns c =
    let all = c.self.inside.items.items in
    let from = c.args.from in
    let count = c.args.count in
    let same : (from + count) - from ≡ count = omega arith in
    let whole : count ≡ 0 + count = omega arith in
    let size : length all ≡ length c.args.self.now = ap length c.self.view_is in
    c.truncate.ensures.items ∙ ap (take count) c.copy_within.ensures.items
    ∙ ap (λ n. take count (paste all 0 (drop from all) n)) same
    ∙ ap (λ n. take n (paste all 0 (drop from all) count)) whole
    ∙ take-paste all 0 (drop from all) count (omega arith) (omega (arith, length-drop from all, size, c.requires)) ∙ ap (λ l. take count (drop from l)) c.self.view_is
