use Rattle.std.proofs.Common.{◌∙◌, List, length, subst, sym}
use Rattle.rr_groups.specs.declared.group.Group.{Group}
use Rattle.rr_seam.specs.Stated.{calendar_by}
use Rattle.rr_trip.specs.Found.{AreSound}
use Rattle.rr_trip.specs.Shown.{IsShownLine, keys_with_title, shown_line}
use Rattle.rr_trip.specs.Zoned.{zoned}
use Rattle.rr_trip.proofs.ShownLemmas.{ok_each, shown_in}
use Rattle.rr_trip.proofs.shown.show.Goals as goal

pub show_among-requires : goal.show_among-requires
show_among-requires g c =
    subst (λ (gs : List Group). AreSound (length gs) c.in_ok-found.found) (c.deref-3.ensures.value ∙ sym c.deref-4.ensures.value) c.in_ok-found.ensures.sound

pub returns : goal.returns
returns g c =
    let a = zoned (calendar_by (g.A.EventFile.keys c.args.a.now) (g.A.EventFile.stated c.args.a.now) (g.A.EventFile.titles c.args.a.now))
    (g.M.ZoneNames.meaning c.args.names_a.now) in
    let b = zoned (calendar_by (g.B.EventFile.keys c.args.b.now) (g.B.EventFile.stated c.args.b.now) (g.B.EventFile.titles c.args.b.now))
    (g.N.ZoneNames.meaning c.args.names_b.now) in
    let name = c.args.name.now in
    let taken = c.deref-4.result.now in
    let found = c.in_ok-found.found in
    ok_each {P = IsShownLine c.args.titles a b taken found name (shown_line taken found name (keys_with_title a b name))} c.show_among.result
    c.show_among.ensures
    (shown_in c.args.by_uid c.args.titles a b name c.deref.result.now c.deref-2.result.now c.in_ok-by_key.by_key.items c.in_ok-groups.groups.items c.deref-3.result.now taken found
    (c.deref.ensures.value ∙ c.in_ok-keys_a.ensures) (c.deref-2.ensures.value ∙ c.in_ok-keys_b.ensures) c.in_ok-by_key.ensures c.in_ok-groups.ensures c.deref-3.ensures.value
    c.in_ok-found.ensures.found c.deref-4.ensures.value)
