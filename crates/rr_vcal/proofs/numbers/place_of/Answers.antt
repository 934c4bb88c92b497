use Rattle.std.proofs.Common.{◌≡◌, ℕ, Bool, true, false, List, ℤ, ap, ◌∙◌, arith, w8, to_z-of_z}
use Rattle.std.specs.Prelude.{◌&&◌, if◌then◌else◌, nat_le, pos, neg_ℤ, Result, Ok, Err}
use Rattle.std.proofs.lemmas.Result.{err_from_is_err_and}
use Rattle.rr_model.specs.Text.Digits.{digits_value}
use Rattle.rr_model.specs.Vcal.Rule.{is_short_number}
use Rattle.rr_model.specs.declared.refusal.Refusal.{Refusal}
use Rattle.rr_model.specs.declared.refusal.Refusal.TheVariants.{BadRule, NumberRange}
use Rattle.rr_vcal.proofs.numbers.place_of.Goals as goal

-- what is made of a number under two tests
abbrev tested : {X : Type 0} → Bool → Bool → X → Refusal → Refusal → Result X Refusal
tested form range x low bad = if form then (if range then Ok x else Err low) else Err bad

same_ok : {X : Type 0} (f : ℕ → X) (form range : Bool) (d n : ℕ) (low bad : Refusal) → Ok n ≡ tested form range d low bad
    → Ok (f n) ≡ tested form range (f d) low bad
same_ok f true true d n low bad e = cc
same_ok f true false d n low bad e = absurd (cc)
same_ok f false range d n low bad e = absurd (cc)

same_err : {X : Type 0} (f : ℕ → X) (form range : Bool) (d : ℕ) (r low bad : Refusal) → Err r ≡ tested form range d low bad
    → Err r ≡ tested form range (f d) low bad
same_err f true true d r low bad e = absurd (cc)
same_err f true false d r low bad e = cc
same_err f false range d r low bad e = cc

abbrev signed : Bool → ℕ → ℤ
signed from_back n = if from_back then neg_ℤ (pos n) else pos n

abbrev in_range : ℕ → List ℕ → Bool
in_range most text = nat_le 1 (digits_value text) && nat_le (digits_value text) most

pub signed_place-requires : goal.signed_place-requires
signed_place-requires c = omega (arith, c.in_ok-n.ensures.bound, c.requires)

pub returns-in_err-n : goal.returns-in_err-n
returns-in_err-n c =
    let p = err_from_is_err_and c.from_residual.result c.from_residual.ensures.1 in
    rw (p.1, p.2) (same_err (signed c.args.from_back) (is_short_number c.args.text.now) (in_range c.args.most c.args.text.now) (digits_value c.args.text.now)
    c.in_err-n.field-0.0 (NumberRange c.args.line) (BadRule c.args.line) c.in_err-n.ensures.value)

pub returns : goal.returns
returns c =
    ap Ok (to_z-of_z {w = w8} {z = c.signed_place.result} (record { sfits = c.signed_place.type_inv }) ∙ c.signed_place.ensures)
    ∙ same_ok (signed c.args.from_back) (is_short_number c.args.text.now) (in_range c.args.most c.args.text.now) (digits_value c.args.text.now) c.in_ok-n.n
    (NumberRange c.args.line) (BadRule c.args.line) c.in_ok-n.ensures.value
