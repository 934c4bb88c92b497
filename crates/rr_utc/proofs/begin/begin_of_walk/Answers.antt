use Rattle.std.proofs.Common.{◌≡◌, ◌-ℤ◌, ◌*ℤ◌, ◌≤ℤ◌, ◌<ℤ◌, pos, neg_ℤ, FitsSigned, w64, to_z, of_z, ap, subst, sym, ◌∙◌, arith}
use Rattle.std.specs.Int.{int_max, int_min}
use Rattle.std.proofs.lemmas.Int.{ints, to_z-of_z}
use Rattle.rr_model.specs.Moment.{day_part}
use Rattle.rr_model.specs.Sets.Sketch.{StandsIn}
use Rattle.rr_model.specs.declared.kind.Kind.TheVariants.{Moments}
use Rattle.rr_true.specs.Changes.{offset_of}
use Rattle.rr_true.specs.Occurrences.{TrueOf}
use Rattle.rr_utc.specs.Between.{AgreeBefore}
use Rattle.rr_utc.proofs.BeginLemmas.{agree_before_begin, are_stored, equal_within, two_before_fits}
use Rattle.rr_utc.proofs.begin.begin_of_walk.Goals as goal

pub returns-then-last-first-clause-before : goal.returns-then-last-first-clause-before
returns-then-last-first-clause-before g c =
    let first = c.first_of_both-first.result in
    let fits : FitsSigned w64 first = record { sfits = c.first_of_both-first.type_inv } in
    let P = TrueOf (offset_of c.args.zone_a.now) (StandsIn (g.A.DaySeq.sketch c.args.a.now)) in
    let Q = TrueOf (offset_of c.args.zone_b.now) (StandsIn (g.B.DaySeq.sketch c.args.b.now)) in
    subst (λ z. AgreeBefore P Q (z *ℤ pos 86_400)) (sym (to_z-of_z w64 first fits)) c.first_of_both-first.ensures.before

pub first_parted-parted-requires-clause-low : goal.first_parted-parted-requires-clause-low
first_parted-parted-requires-clause-low g c =
    let first = c.first_of_both-first.result in
    let last = c.last_equal_day-last.result in
    let fits_first : FitsSigned w64 first = record { sfits = c.first_of_both-first.type_inv } in
    let fits_last : FitsSigned w64 last = record { sfits = c.last_equal_day-last.type_inv } in
    let f = to_z-of_z w64 first fits_first in
    let l = to_z-of_z w64 last fits_last in
    let test = c.if-last-first.false in
    let less : first <ℤ last = omega (arith, ints, f, l, test) in
    let e = to_z-of_z w64 c.args.end c.ranges.end in
    let high = c.requires.end in
    let within : last ≤ℤ to_z w64 (of_z w64 c.args.end) =
    subst (λ z. z ≤ℤ to_z w64 (of_z w64 c.args.end)) (sym c.last_equal_day-last.ensures) (equal_within c.args.local (to_z w64 (of_z w64 c.args.end))) in
    let stored = are_stored first last fits_first fits_last c.first_of_both-first.ensures.low less (omega (arith, ints, within, e, high)) in
    subst (λ z. neg_ℤ (pos 400_000_000_000_000_000) ≤ℤ z) (sym stored.from) stored.low

pub first_parted-parted-requires-clause-high : goal.first_parted-parted-requires-clause-high
first_parted-parted-requires-clause-high g c =
    let last = c.last_equal_day-last.result in
    let fits_last : FitsSigned w64 last = record { sfits = c.last_equal_day-last.type_inv } in
    let first = c.first_of_both-first.result in
    let fits_first : FitsSigned w64 first = record { sfits = c.first_of_both-first.type_inv } in
    let f = to_z-of_z w64 first fits_first in
    let l = to_z-of_z w64 last fits_last in
    let test = c.if-last-first.false in
    let less : first <ℤ last = omega (arith, ints, f, l, test) in
    let e = to_z-of_z w64 c.args.end c.ranges.end in
    let high = c.requires.end in
    let within : last ≤ℤ to_z w64 (of_z w64 c.args.end) =
    subst (λ z. z ≤ℤ to_z w64 (of_z w64 c.args.end)) (sym c.last_equal_day-last.ensures) (equal_within c.args.local (to_z w64 (of_z w64 c.args.end))) in
    let stored = are_stored first last fits_first fits_last c.first_of_both-first.ensures.low less (omega (arith, ints, within, e, high)) in
    subst (λ z. z ≤ℤ pos 400_000_000_000_000_000) (sym stored.end) stored.high

pub overflow_sub-day_part : goal.overflow_sub-day_part
overflow_sub-day_part g c =
    let parted = c.first_parted-parted.result in
    let fits : FitsSigned w64 parted = record { sfits = c.first_parted-parted.type_inv } in
    let fits_day : FitsSigned w64 c.day_part.result = record { sfits = c.day_part.type_inv } in
    two_before_fits parted c.day_part.result fits fits_day (c.day_part.ensures ∙ ap (day_part Moments) (to_z-of_z w64 parted fits))

pub returns-clause-before : goal.returns-clause-before
returns-clause-before g c =
    let s = g.A.DaySeq.sketch c.args.a.now in
    let u = g.B.DaySeq.sketch c.args.b.now in
    let first = c.first_of_both-first.result in
    let last = c.last_equal_day-last.result in
    let parted = c.first_parted-parted.result in
    let day = c.day_part.result in
    let end = to_z w64 (of_z w64 c.args.end) in
    let fits_first : FitsSigned w64 first = record { sfits = c.first_of_both-first.type_inv } in
    let fits_last : FitsSigned w64 last = record { sfits = c.last_equal_day-last.type_inv } in
    let fits_parted : FitsSigned w64 parted = record { sfits = c.first_parted-parted.type_inv } in
    let fits_day : FitsSigned w64 day = record { sfits = c.day_part.type_inv } in
    let fits_min : FitsSigned w64 c.min.result = record { sfits = c.min.type_inv } in
    let fits_max : FitsSigned w64 c.max.result = record { sfits = c.max.type_inv } in
    let f = to_z-of_z w64 first fits_first in
    let l = to_z-of_z w64 last fits_last in
    let test = c.if-last-first.false in
    let less : first <ℤ last = omega (arith, ints, f, l, test) in
    let e = to_z-of_z w64 c.args.end c.ranges.end in
    let high = c.requires.end in
    let within : last ≤ℤ end = subst (λ z. z ≤ℤ end) (sym c.last_equal_day-last.ensures) (equal_within c.args.local end) in
    let stored = are_stored first last fits_first fits_last c.first_of_both-first.ensures.low less (omega (arith, ints, within, e, high)) in
    let of_day : day ≡ day_part Moments parted = c.day_part.ensures ∙ ap (day_part Moments) (to_z-of_z w64 parted fits_parted) in
    let two = to_z w64 (of_z w64 (to_z w64 (of_z w64 day) -ℤ pos 2)) in
    let two_is : two ≡ day_part Moments parted -ℤ pos 2 =
    to_z-of_z w64 (to_z w64 (of_z w64 day) -ℤ pos 2) (two_before_fits parted day fits_parted fits_day of_day)
    ∙ ap (λ z. z -ℤ pos 2) (to_z-of_z w64 day fits_day ∙ of_day) in
    let min_is : c.min.result ≡ int_min last (day_part Moments parted -ℤ pos 2) = c.min.ensures.value ∙ ap (λ z. int_min z two) l ∙ ap (int_min last) two_is in
    let max_is : c.max.result ≡ int_max first (int_min last (day_part Moments parted -ℤ pos 2)) =
    c.max.ensures.value ∙ ap (λ z. int_max z (to_z w64 (of_z w64 c.min.result))) f ∙ ap (int_max first) (to_z-of_z w64 c.min.result fits_min ∙ min_is) in
    agree_before_begin s u c.requires.kind_a c.requires.kind_b (offset_of c.args.zone_a.now) (offset_of c.args.zone_b.now) c.is_offset.ensures c.is_offset-2.ensures
    c.args.local c.requires.local first last end _ parted (to_z w64 (of_z w64 c.max.result)) c.first_of_both-first.ensures.before c.last_equal_day-last.ensures
    stored.from c.first_parted-parted.ensures.one (to_z-of_z w64 c.max.result fits_max ∙ max_is)
