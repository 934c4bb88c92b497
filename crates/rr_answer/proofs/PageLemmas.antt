-- Look-ups in tables of pages.
use Rattle.std.proofs.Common.{◌≡◌, ℕ, suc, ◌+◌, ◌<◌, true, false, List, ◌∷◌, drop, drop-cons, get_or, length, Some, bytes_eq, refl, sym, ap, ◌∙◌, arith}
use Rattle.rr_answer.specs.Pages.{page_in}
use Rattle.rr_answer.specs.declared.pages.Page.{Page}

-- the pages from an index on: the page there, and those after it
pages_from : (pages : List Page) (i : ℕ) (none : Page) → i < length pages → drop i pages ≡ get_or pages i none ∷ drop (i + 1) pages
pages_from pages i none l =
    let e : i + 1 ≡ suc i = omega arith in drop-cons pages i none l ∙ ap (λ n. get_or pages i none ∷ drop n pages) (sym e)

-- the page that has the name is found
pub page_found : (name : List ℕ) (pages : List Page) (i : ℕ) (none : Page) → i < length pages →
    bytes_eq name (get_or pages i none).name.now ≡ true → page_in name (drop i pages) ≡ Some (get_or pages i none).text.now
page_found name pages i none l is = rw (pages_from pages i none l, is) refl

-- a page that has another name is passed over
pub page_passed : (name : List ℕ) (pages : List Page) (i : ℕ) (none : Page) → i < length pages →
    bytes_eq name (get_or pages i none).name.now ≡ false → page_in name (drop i pages) ≡ page_in name (drop (i + 1) pages)
page_passed name pages i none l is = rw (pages_from pages i none l, is) refl
