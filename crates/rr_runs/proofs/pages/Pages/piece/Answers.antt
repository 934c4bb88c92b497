use Rattle.std.proofs.Common.{◌-◌, ◌*◌, ◌/◌, ◌%◌, ◌<◌, ◌∙◌, sym, arith, length}
use Rattle.std.proofs.lemmas.Grind.{get_or_default_zero}
use Rattle.rr_runs.proofs.PagesLemmas.{length_numbers, piece_of_page, piece_of_rest}
use Rattle.rr_runs.proofs.pages.Pages.piece.Goals as goal

pub rest_from-requires : goal.rest_from-requires
rest_from-requires c =
    let all =
    length_numbers c.self.inside.pool.items c.self.inside.pages.items c.self.inside.rest.items c.args.self.now (sym c.self.view_is)
    c.self.invariant in
    omega (arith, all)

pub returns-then-index-paged : goal.returns-then-index-paged
returns-then-index-paged c =
    piece_of_rest c.self.inside.pool.items c.self.inside.pages.items c.self.inside.rest.items c.args.self.now (sym c.self.view_is) c.self.invariant
    c.args.index (c.args.index - c.len-paged.result * 63) c.rest_from.result.now (omega arith) c.requires (rw c.deref.ensures.value at c.rest_from.ensures)

pub returns : goal.returns
returns c =
    let stands : c.args.index / 63 < length c.self.inside.pages.items = omega arith in
    piece_of_page c.self.inside.pool.items c.self.inside.pages.items c.self.inside.rest.items c.args.self.now (sym c.self.view_is) c.self.invariant
    c.args.index c.index.result.now (c.args.index / 63) (c.args.index % 63) c.rest_of_page.result.now (omega arith) (omega arith) stands
    (c.index.ensures ∙ get_or_default_zero c.self.inside.pages.items (c.args.index / 63) c.index.result.now stands)
    (rw c.deref-2.ensures.value at c.rest_of_page.ensures)
