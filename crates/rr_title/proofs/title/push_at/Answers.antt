use Rattle.std.proofs.Common.{◌+◌, ◌∙◌, ap, get_or, List, ℕ}
use Rattle.std.proofs.lemmas.Result.{IfOk-weaker}
use Rattle.rr_title.specs.Title.{bytes_left}
use Rattle.rr_title.proofs.SafeLemmas.{put_at, whole_rest}
use Rattle.rr_title.proofs.title.push_at.Goals as goal

pub returns : goal.returns
returns c =
    let title = c.args.title.now in
    let i = c.args.index in
    IfOk-weaker c.push_byte.result _ _
    (λ left pushed. put_at c.args.left left title c.args.out.now.items c.push_byte.new.out.items i c.bytes_left-of.result c.requires
    (c.bytes_left-of.ensures ∙ ap (λ (xs : List ℕ). bytes_left c.args.left (get_or title i 0) xs) (whole_rest (i + 1) title)) pushed)
    c.push_byte.ensures
