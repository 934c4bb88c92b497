use Rattle.std.proofs.Common.{ℕ, ◌+◌, take, drop, option_map, ap}
use Rattle.std.proofs.lemmas.List.{take_rest}
use Rattle.rr_text.proofs.values.split_once.Goals as goal

pub returns : goal.returns
returns c =
    let text = c.args.text.now in
    rw take_rest (ap (option_map (λ (i : ℕ). (take i text, drop (i + 1) text))) c.in_ok-index.ensures)
