use Rattle.std.proofs.Common.{rules, ◌≡◌, ◌∷◌, [], ◌∙◌, false, sym, w64, FitsSigned, to_z-of_z}
use Rattle.rr_model.specs.Rule.Chosen.{is_chosen}
use Rattle.rr_model.proofs.StartLemmas.{IsDayWithin-start}
use Rattle.rr_start.proofs.SearchLemmas.{counted_none, found_result, only_rule}
use Rattle.rr_start.proofs.off.first_of_off.Goals as goal

pub chosen-requires-clause-near : goal.chosen-requires-clause-near
chosen-requires-clause-near c =
    let s = c.args.series.now in
    let fits : FitsSigned w64 s.start = search rules in
    rw (to_z-of_z fits) (IsDayWithin-start 0 s.kind s.start c.requires.start)

pub returns-in-None : goal.returns-in-None
returns-in-None c =
    let s = c.args.series.now in
    let rule = c.index-as_slice-0.result in
    let open_now = c.is_open.ensures.0 c.if-not-is_open.false in
    let only : s.rules ≡ rule ∷ [] = only_rule s.rules rule open_now.one_rule (rw c.as_slice.ensures at c.index-as_slice-0.is) in
    counted_none s rule only c.in-None.ensures

pub returns-in-Some : goal.returns-in-Some
returns-in-Some c =
    let s = c.args.series.now in
    let rule = c.index-as_slice-0.result in
    let open_now = c.is_open.ensures.0 c.if-not-is_open.false in
    let only : s.rules ≡ rule ∷ [] = only_rule s.rules rule open_now.one_rule (rw c.as_slice.ensures at c.index-as_slice-0.is) in
    let fits : FitsSigned w64 s.start = search rules in
    let last_fits : FitsSigned w64 c.in-Some.last = search rules in
    let tested = rw (to_z-of_z fits) at c.chosen.ensures in
    let not : is_chosen rule s.kind s.start s.start ≡ false = sym tested ∙ c.if-chosen.false in
    let found = rw (to_z-of_z fits, to_z-of_z last_fits) at c.first_chosen.ensures in
    found_result s rule only c.requires open_now not c.in-Some.last c.first_chosen.result c.in-Some.ensures found
