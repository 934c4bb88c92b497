use Rattle.std.proofs.Common.{inl, inr, Some}
use Rattle.rr_decide.proofs.QuietLemmas.{put_last}
use Rattle.rr_decide.proofs.quiet.Quiet.put.Goals as goal

pub returns : goal.returns
returns c =
    let made = c.make_table.new.self in
    let placed = c.place.new.self in
    put_last c.args.self.now made (record { alike = placed.alike; recent = Some c.after.result; table = placed.table }) c.args.pair c.make_table.ensures
    c.place.ensures.alike
    (λ a b h. elim (c.after.ensures a b h) [ inl old ↦ inl (rw c.place.ensures.recent at old) | inr new ↦ inr new ]) c.place.ensures.placed
