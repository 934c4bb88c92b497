use Rattle.std.proofs.Common.{rules, refl}
use Rattle.rr_trip.proofs.shown.show_subject.Goals as goal

pub returns : goal.returns
returns g c = record {
  said = c.in_ok-said.said;
  more = c.in_ok-picture.picture.items;
  is_said = c.in_ok-said.ensures.said;
  tells = refl;
  status = c.said_status.ensures;
  text = search rules;
  picture = c.in_ok-picture.ensures;
}

pub said_of-requires-clause-known : goal.said_of-requires-clause-known
said_of-requires-clause-known g c =
    c.new-known.ensures (g.M.ZoneNames.meaning c.args.names_a.now) (g.N.ZoneNames.meaning c.args.names_b.now)
