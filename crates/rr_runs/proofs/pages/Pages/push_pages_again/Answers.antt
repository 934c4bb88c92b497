use Rattle.std.proofs.Common.{◌∙◌, ◌/◌, length, refl, sym, ap, arith}
use Rattle.rr_runs.proofs.PagesLemmas.{again_is_paged, length_numbers, pages_again}
use Rattle.rr_runs.proofs.pages.Pages.push_pages_again.Goals as goal

pub put_again-requires-clause-within : goal.put_again-requires-clause-within
put_again-requires-clause-within c =
    let room = c.if-not-has_room.ensures refl in
    let all =
    length_numbers c.make_room.new.pool.items c.make_room.new.pages.items c.make_room.new.rest.items c.args.self.now
    (sym (c.in_ok-make_room.ensures.same ∙ c.self.view_is)) c.in_ok-make_room.ensures.paged in
    omega (arith, all, ap length room.0, c.requires)

pub invariant_of-self-2 : goal.invariant_of-self-2
invariant_of-self-2 c =
    let room = c.if-not-has_room.ensures refl in
    again_is_paged c.make_room.new.pool.items c.make_room.new.pages.items c.put_again.new.numbers.items c.make_room.new.rest.items (c.args.index / 63)
    (c.args.most / 63) c.in_ok-make_room.ensures.paged room.0 room.1 c.in_ok-put_again.ensures.value

pub returns : goal.returns
returns c =
    let room = c.if-not-has_room.ensures refl in (
      omega arith,
      pages_again c.make_room.new.pool.items c.make_room.new.pages.items c.put_again.new.numbers.items c.make_room.new.rest.items c.args.self.now
          c.args.index (c.args.most / 63) c.in_ok-make_room.ensures.paged (c.in_ok-make_room.ensures.same ∙ c.self.view_is) room.0 (omega arith)
          c.in_ok-put_again.ensures.value,
    )
