use Rattle.std.proofs.Common.{◌≡◌, ◌/◌, min, length, take, drop, sym, ap, ◌∙◌, arith}
use Rattle.rr_runs.proofs.PagesLemmas.{pages_of_part, zeros_of_pages}
use Rattle.rr_runs.proofs.pages.Pages.zero_pages_from.Goals as goal

pub zero_pages-requires : goal.zero_pages-requires
zero_pages-requires c =
    let most = min (length c.rest_from.result.now) 64 in
    let row : c.first_numbers.result.now ≡ take most (drop (c.args.index / 63) c.self.inside.pages.items) =
    c.first_numbers.ensures ∙ ap (take most) (rw c.deref.ensures.value at c.rest_from.ensures) in
    rw c.as_slice.ensures.value (pages_of_part c.self.inside.pool.items c.self.inside.pages.items c.first_numbers.result.now (c.args.index / 63) most c.self.invariant.stand row)

pub returns : goal.returns
returns c =
    let most = min (length c.rest_from.result.now) 64 in
    let row : c.first_numbers.result.now ≡ take most (drop (c.args.index / 63) c.self.inside.pages.items) =
    c.first_numbers.ensures ∙ ap (take most) (rw c.deref.ensures.value at c.rest_from.ensures) in
    zeros_of_pages c.self.inside.pool.items c.self.inside.pages.items c.self.inside.rest.items c.args.self.now c.first_numbers.result.now c.args.index
    c.zero_pages.result most c.self.invariant (sym c.self.view_is) (omega arith) (omega arith) row c.zero_pages.ensures.few
    (rw c.as_slice.ensures.value at c.zero_pages.ensures.zeros)
