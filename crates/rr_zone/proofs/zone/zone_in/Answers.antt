use Rattle.std.proofs.Common.{◌≡◌, ◌∙◌, ◌-◌, [], ap, drop, get_or, length, map, sym, take}
use Rattle.std.specs.Result.{IfOk}
use Rattle.rr_events.specs.RawLines.{lines_of}
use Rattle.rr_events.specs.declared.find.Piece.{Piece}
use Rattle.rr_zone.specs.Zones.{are_same, raw_lines_in, zone_of}
use Rattle.rr_zone.proofs.PartLemmas.{all_but_first, all_same, some_differ}
use Rattle.rr_zone.proofs.zone.zone_in.Goals.{In_ok-are_all_same}
use Rattle.rr_zone.proofs.zone.zone_in.Goals as goal

-- a piece that is never read
abbrev none : Piece
none = record { text = record { ref_ptr = (0, 0); now = [] }; first = 0 }

-- whether the others are the same is told
told : (c : In_ok-are_all_same) → c.in_ok-are_all_same.field-0
    ≡ are_same (lines_of (raw_lines_in (get_or c.as_slice.result.now 0 none))) (map raw_lines_in (drop 1 c.as_slice.result.now))
told c =
    let a : c.in_ok-are_all_same.field-0
    ≡ are_same (lines_of (raw_lines_in (get_or c.as_slice.result.now 0 none))) (map raw_lines_in (take (length c.as_slice.result.now - 1) (drop 1 c.as_slice.result.now))) =
    c.in_ok-are_all_same.ensures in
    rw (all_but_first c.as_slice.result.now) at a

pub returns-then-not-branch : goal.returns-then-not-branch
returns-then-not-branch c =
    some_differ c.as_slice.result.now none _ c.in-len1-up.len_at_least (ap (map raw_lines_in) c.as_slice.ensures.value ∙ c.in_ok-named.ensures.named)
    (sym (told (goal.at.returns-then-not-branch c).In_ok-are_all_same) ∙ c.if-not-branch.true)

pub returns : goal.returns
returns c =
    let e = all_same c.as_slice.result.now none _ c.in-len1-up.len_at_least (ap (map raw_lines_in) c.as_slice.ensures.value ∙ c.in_ok-named.ensures.named)
    (sym (told (goal.at.returns c).In_ok-are_all_same) ∙ c.if-not-branch.false) in
    let read : IfOk c.zone_of.result (λ read. read ≡ zone_of (raw_lines_in (get_or c.as_slice.result.now 0 none))) = c.zone_of.ensures in
    rw e at read
