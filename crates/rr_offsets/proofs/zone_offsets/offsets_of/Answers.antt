use Rattle.std.proofs.Common.{◌≡◌, rules, sym, ◌∙◌, w32, w64, to_z-of_z, FitsSigned}
use Rattle.rr_offsets.specs.Listing.{first_from}
use Rattle.rr_offsets.proofs.OffsetsLemmas.{IsKnown, offsets_after, offsets_from, sound_after, sound_from}
use Rattle.rr_offsets.proofs.zone_offsets.offsets_of.Goals.{After-first_from}
use Rattle.rr_offsets.proofs.zone_offsets.offsets_of.Goals as goal

known : (c : After-first_from) → IsKnown c.args.zone.now c.past_of-past.result c.initial_of-initial.result c.in_ok-changes.changes.items
known c =
    let past : FitsSigned w64 c.past_of-past.result = record { sfits = c.past_of-past.type_inv } in
    let last : FitsSigned w64 c.day_after_cycle-last.result = record { sfits = c.day_after_cycle-last.type_inv } in
    let end : FitsSigned w64 c.begin_of.result = record { sfits = c.begin_of.type_inv } in
    let begin = rw (to_z-of_z last) at c.begin_of.ensures in
    record {
      tables = c.in_ok-tables.tables.items;
      last = c.day_after_cycle-last.result;
      listed = rw (to_z-of_z last) at c.in_ok-tables.ensures;
      day = rw (to_z-of_z past) at c.day_after_cycle-last.ensures;
      past = c.past_of-past.ensures.moment;
      first = rw (c.deref.ensures.value) at c.initial_of-initial.ensures;
      all = rw (to_z-of_z end, begin, c.deref-2.ensures.value) at c.in_ok-changes.ensures;
    }

found : (c : After-first_from) → c.first_from.result ≡ first_from c.in_ok-changes.changes.items c.past_of-past.result
found c =
    let past : FitsSigned w64 c.past_of-past.result = record { sfits = c.past_of-past.type_inv } in
    rw (to_z-of_z past, c.as_slice.ensures.value) at c.first_from.ensures

initial : (c : After-first_from) → FitsSigned w32 c.initial_of-initial.result
initial c = record { sfits = c.initial_of-initial.type_inv }

pub new-requires : goal.new-requires
new-requires c =
    let a = (goal.at.new-requires c).After-first_from in
    let settled : FitsSigned w64 c.in-Some.settled = search rules in
    rw (to_z-of_z (initial a), to_z-of_z settled)
    (sound_from c.args.zone.now c.requires.sound c.past_of-past.result c.initial_of-initial.result c.in_ok-changes.changes.items (known a)
    c.in-Some.settled (sym (found a) ∙ c.in-Some.is))

pub returns-in-Some : goal.returns-in-Some
returns-in-Some c = λ u. (
    let a = (goal.at.returns-in-Some c).After-first_from in
    let settled : FitsSigned w64 c.in-Some.settled = search rules in
    let e = rw (to_z-of_z (initial a), to_z-of_z settled) at (c.new.ensures u) in
    e ∙ offsets_from c.args.zone.now c.requires.sound c.past_of-past.result c.initial_of-initial.result c.in_ok-changes.changes.items (known a)
    c.requires.steady c.past_of-past.ensures.over c.in-Some.settled (sym (found a) ∙ c.in-Some.is) u)

pub new-requires-in-None : goal.new-requires-in-None
new-requires-in-None c =
    let a = (goal.at.new-requires-in-None c).After-first_from in
    let past : FitsSigned w64 c.past_of-past.result = record { sfits = c.past_of-past.type_inv } in
    rw (to_z-of_z (initial a), to_z-of_z past)
    (sound_after c.args.zone.now c.requires.sound c.past_of-past.result c.initial_of-initial.result c.in_ok-changes.changes.items (known a))

pub returns : goal.returns
returns c = λ u. (
    let a = (goal.at.returns c).After-first_from in
    let past : FitsSigned w64 c.past_of-past.result = record { sfits = c.past_of-past.type_inv } in
    let e = rw (to_z-of_z (initial a), to_z-of_z past) at (c.new-in-None.ensures u) in
    e ∙ offsets_after c.args.zone.now c.requires.sound c.past_of-past.result c.initial_of-initial.result c.in_ok-changes.changes.items (known a)
    c.requires.steady c.past_of-past.ensures.over (sym (found a) ∙ c.in-None.is) u)
