-- What has the place of another in the order of the searches is that other: kinds, types, first days of the week and indexes.
use Rattle.std.proofs.Common.{◌≡◌, ℕ, zero, suc, ◌+◌, ◌%◌, ◌≤◌, Bool, true, false, ℤ, pos, negsuc, inl, inr, refl, sym, ap, ◌∙◌, arith}
use Rattle.std.proofs.lemmas.Int.{ints}
use Rattle.rr_model.specs.Graph.Validity.{IsIndex, LiesIfUsed}
use Rattle.rr_model.specs.declared.graph.Form.{Form}
use Rattle.rr_model.specs.declared.graph.Form.TheVariants as form
use Rattle.rr_model.specs.declared.vcal.FamilyKind.{FamilyKind}
use Rattle.rr_model.specs.declared.vcal.FamilyKind.TheVariants as family
use Rattle.rr_family.specs.GraphProfile.{form_place, index_place}
use Rattle.rr_family.specs.Profile.{kind_place}

-- ---- kinds of rules

kind_at : ℕ → FamilyKind
kind_at zero = family.D
kind_at (suc zero) = family.W
kind_at (suc (suc zero)) = family.MD
kind_at (suc (suc (suc zero))) = family.MP
kind_at (suc (suc (suc (suc zero)))) = family.YM
kind_at (suc (suc (suc (suc (suc n))))) = family.YD

kind_at_place : (f : FamilyKind) → kind_at (kind_place f) ≡ f
unfolding kind_at
kind_at_place family.D = refl
kind_at_place family.W = refl
kind_at_place family.MD = refl
kind_at_place family.MP = refl
kind_at_place family.YM = refl
kind_at_place family.YD = refl

pub one_kind : (f g : FamilyKind) → kind_place f ≡ kind_place g → f ≡ g
one_kind f g e = sym (kind_at_place f) ∙ ap kind_at e ∙ kind_at_place g

-- ---- types of patterns

form_at : ℕ → Form
form_at zero = form.Daily
form_at (suc zero) = form.Weekly
form_at (suc (suc zero)) = form.AbsoluteMonthly
form_at (suc (suc (suc zero))) = form.RelativeMonthly
form_at (suc (suc (suc (suc zero)))) = form.AbsoluteYearly
form_at (suc (suc (suc (suc (suc n))))) = form.RelativeYearly

form_at_place : (f : Form) → form_at (form_place f) ≡ f
unfolding form_at
form_at_place form.Daily = refl
form_at_place form.Weekly = refl
form_at_place form.AbsoluteMonthly = refl
form_at_place form.RelativeMonthly = refl
form_at_place form.AbsoluteYearly = refl
form_at_place form.RelativeYearly = refl

pub one_form : (f g : Form) → form_place f ≡ form_place g → f ≡ g
one_form f g e = sym (form_at_place f) ∙ ap form_at e ∙ form_at_place g

-- ---- first days of the week

-- weekdays are 0 to 6, used or not
pub weekday_most : (used : Bool) (n : ℕ) → LiesIfUsed used 0 6 6 n → n ≤ 6
weekday_most true n h = h.1
weekday_most false n h = omega (arith, h)

pub one_weekday : (m n : ℕ) → m ≤ 6 → n ≤ 6 → (m + 1) % 7 ≡ (n + 1) % 7 → m ≡ n
one_weekday m n l h e = omega (arith, l, h, e)

-- ---- indexes

index_most : (used : Bool) (n : ℕ) → IsIndex used (pos n) → n ≤ 4
index_most true n (inl h) = omega (arith, ints, h.1)
index_most true n (inr e) = absurd (omega (arith, ints, e))
index_most false n e = omega (arith, ints, e)

pub one_index : (used also_used : Bool) (i j : ℤ) → IsIndex used i → IsIndex also_used j → index_place i ≡ index_place j → i ≡ j
one_index used also_used (pos m) (pos n) h k e = ap pos e
one_index used also_used (pos m) (negsuc n) h k e = absurd (let l = index_most used m h in omega (arith, l, e))
one_index used also_used (negsuc m) (pos n) h k e = absurd (let l = index_most also_used n k in omega (arith, l, e))
one_index used also_used (negsuc m) (negsuc n) h k e = ap negsuc (omega (arith, e))
