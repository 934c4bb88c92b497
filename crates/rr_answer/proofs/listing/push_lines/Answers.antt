use Rattle.std.proofs.Common.{◌≡◌, ◌∙◌, ℕ, List, get_or, ap, refl, sym, ◌++◌, w64, to_z, of_z, to_z-of_z, take, take_all, arith}
use Rattle.rr_model.specs.Moment.{moment_at}
use Rattle.rr_model.specs.Text.Moments.{extended_date_text}
use Rattle.rr_answer.specs.Listing.{line_end, occurrence_line}
use Rattle.rr_answer.proofs.LineLemmas.{all_lines, date_and_end, no_lines, one_more_line}
use Rattle.rr_answer.proofs.listing.push_lines.Goals as goal

pub loop-second-init : goal.loop-second-init
loop-second-init c = no_lines c.args.kind (moment_at c.args.kind c.args.day) c.args.out.now.items c.args.seconds.now

pub loop-second-preserved : goal.loop-second-preserved
loop-second-preserved c =
    let k = c.loop-second.second-index in
    let second = get_or c.args.seconds.now k 0 in
    let day = to_z w64 (of_z w64 c.args.day) in
    let date : c.as_slice.result.now ≡ extended_date_text day =
    c.as_slice.ensures.value ∙ c.in_ok-push_extended_date.ensures.ok ∙ ap (λ (l : List ℕ). l ++ extended_date_text day) c.clear.ensures.items in
    let line : occurrence_line c.args.kind (moment_at c.args.kind day second) ≡ c.as_slice.result.now ++ line_end c.args.kind second =
    date_and_end c.args.kind day second (c.requires.of_day k 0 c.loop-second-test.true)
    ∙ ap (λ (l : List ℕ). l ++ line_end c.args.kind second) (sym date) in
    one_more_line c.args.kind (moment_at c.args.kind day) c.args.out.now.items c.args.seconds.now k _ c.loop-second.out.items c.push_line_of.new.out.items
    c.loop-second-test.true refl c.loop-second.invariant
    (c.in_ok-push_line_of.ensures ∙ ap (λ (l : List ℕ). c.loop-second.out.items ++ l) (sym line))

pub returns : goal.returns
returns c =
    let k = c.loop-second.second-index in
    let whole = take_all k c.args.seconds.now (omega (arith, c.loop-second-test.false)) in
    all_lines c.args.kind (moment_at c.args.kind c.args.day) c.args.out.now.items c.args.seconds.now (take k c.args.seconds.now) c.loop-second.out.items
    whole (rw (to_z-of_z c.ranges.day) at c.loop-second.invariant)
