use Rattle.std.proofs.Common.{rules, ◌≡◌, ◌↔◌, ◌≤◌, ℕ, [], Contains, false, get_or, length, w64, to_z, of_z, to_z-of_z, FitsSigned, refl, sym, ap, subst, ◌∙◌}
use Rattle.std.proofs.Common.{nat_lt}
use Rattle.std.proofs.lemmas.Option.{get_or_from_slice_get}
use Rattle.std.proofs.lemmas.List.{length-take-le, nil_from_length}
use Rattle.rr_model.specs.Rising.{Rises}
use Rattle.rr_model.specs.Sets.Tree.{is_among}
use Rattle.rr_times.proofs.TakeLemmas.{first_seconds}
use Rattle.rr_lazy.specs.Next.{with_set}
use Rattle.rr_lazy.proofs.StretchLemmas.{placed}
use Rattle.rr_lazy.proofs.WithoutLemmas.{all_taken}
use Rattle.rr_lazy.proofs.without.left_of.Goals as goal

pub returns-then-not-dates_on-clause-left : goal.returns-then-not-dates_on-clause-left
returns-then-not-dates_on-clause-left c =
    let fits : FitsSigned w64 c.args.found.day = search rules in
    let none : (s : ℕ) → is_among c.args.kind c.args.dates.now c.args.found.day s ≡ false =
    (rw (to_z-of_z fits) at c.dates_on.ensures) c.if-not-dates_on.true in
    (refl, c.requires.given, c.requires.some, λ s. ((λ h. (h, none s)), (λ p. p.0)))

pub slice_bounds-seconds-end : goal.slice_bounds-seconds-end
slice_bounds-seconds-end c =
    let same : c.as_slice.result.now ≡ get_or c.args.sets.now c.args.found.number.index [] =
    c.as_slice.ensures.same ∙ sym (get_or_from_slice_get c.args.sets.now c.args.found.number.index c.times.result.now [] c.times.ensures) in
    sym (length-take-le c.args.found.count c.as_slice.result.now (subst (λ xs. c.args.found.count ≤ length xs) (sym same) c.requires.given.within.1))

pub of-requires : goal.of-requires
of-requires c = first_seconds c.args.found.count c.as_slice.result.now (rw (sym c.as_slice.ensures.same) at c.as_slice.ensures.of_day)

pub returns-then-count-eq0-clause-left : goal.returns-then-count-eq0-clause-left
returns-then-count-eq0-clause-left c =
    let same : c.as_slice.result.now ≡ get_or c.args.sets.now c.args.found.number.index [] =
    c.as_slice.ensures.same ∙ sym (get_or_from_slice_get c.args.sets.now c.args.found.number.index c.times.result.now [] c.times.ensures) in
    let fits : FitsSigned w64 c.args.found.day = search rules in
    let out : (s : ℕ) → Contains c.take_out.new.times s
    ↔ (Contains ((with_set c.args.sets.now c.args.found).times) s × (is_among c.args.kind c.args.dates.now c.args.found.day s ≡ false)) =
    rw (to_z-of_z fits, c.in_ok-times.ensures, same) at c.take_out.ensures in
    all_taken ((with_set c.args.sets.now c.args.found).times) c.take_out.new.times (λ s. is_among c.args.kind c.args.dates.now c.args.found.day s) out
    (sym c.as_slice-count.ensures.same ∙ nil_from_length c.as_slice-count.result.now c.if-count-eq0.true)

pub returns-clause-left : goal.returns-clause-left
returns-clause-left c =
    let same : c.as_slice.result.now ≡ get_or c.args.sets.now c.args.found.number.index [] =
    c.as_slice.ensures.same ∙ sym (get_or_from_slice_get c.args.sets.now c.args.found.number.index c.times.result.now [] c.times.ensures) in
    let fits : FitsSigned w64 c.args.found.day = search rules in
    let out : (s : ℕ) → Contains c.take_out.new.times s
    ↔ (Contains ((with_set c.args.sets.now c.args.found).times) s × (is_among c.args.kind c.args.dates.now c.args.found.day s ≡ false)) =
    rw (to_z-of_z fits, c.in_ok-times.ensures, same) at c.take_out.ensures in
    let p = placed c.place.new.self (to_z w64 (of_z w64 c.args.found.day)) c.in_ok-number.number.index (length c.as_slice-count.result.now) c.take_out.new.times
    c.in_ok-number.ensures.placed (ap length c.as_slice-count.ensures.same) in (
      to_z-of_z fits,
      record { within = p.0; rises = subst (Rises nat_lt) (sym p.1) c.as_slice-count.ensures.of_day.rises },
      λ e. c.if-count-eq0.false (ap length (c.as_slice-count.ensures.same ∙ sym p.1 ∙ e)),
      subst (λ xs. (s : ℕ) → Contains xs s
          ↔ (Contains ((with_set c.args.sets.now c.args.found).times) s × (is_among c.args.kind c.args.dates.now c.args.found.day s ≡ false))) (sym p.1) out,
    )
