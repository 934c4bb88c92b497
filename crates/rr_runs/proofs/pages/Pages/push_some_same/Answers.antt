use Rattle.std.proofs.Common.{◌≡◌, ◌/◌, ◌%◌, ◌∙◌, length, arith}
use Rattle.std.proofs.lemmas.List.{nil_from_length}
use Rattle.rr_runs.proofs.PagesLemmas.{same_pages_and_rest}
use Rattle.rr_runs.proofs.pages.Pages.push_some_same.Goals as goal

pub returns : goal.returns
returns c =
    let none : length c.make_room.new.rest.items ≡ 0 = grind (arith, c.is_empty-else-is_empty.ensures, c.if-not-is_empty.false) in (
      c.requires,
      omega arith,
      same_pages_and_rest c.make_room.new.pool.items c.put_pages_of.new.pool.items c.make_room.new.pages.items c.put_pages_of.new.pages.items
          c.make_room.new.rest.items c.put_same-2.new.numbers.items c.args.self.now c.args.number (c.args.most / 63) (c.args.most % 63) c.args.most
          (c.in_ok-make_room.ensures.same ∙ c.self.view_is) (nil_from_length c.make_room.new.rest.items none) c.in_ok-put_pages_of.ensures.value
          c.in_ok-put_same-2.ensures.value (omega arith),
    )
