-- The members of valid patterns, and what is known of a pattern that has all members of another.
use Rattle.std.proofs.Common.{◌≡◌, inl, ℕ, ◌≤◌, ◌==◌, Bool, true}
use Rattle.std.proofs.Common.{false, ℤ, pos, refl, sym, ap, subst, ◌∙◌, arith, drop, w8, to_z, of_z}
use Rattle.std.proofs.lemmas.Int.{ints}
use Rattle.std.proofs.lemmas.Bool.{false≢true, and_parts}
use Rattle.rr_model.specs.Calendar.{month_of}
use Rattle.rr_model.specs.Graph.Occurrences.{form_holds, is_pattern_day}
use Rattle.rr_model.specs.Graph.Uses.{most_interval, uses_day_of_month, uses_days, uses_first_day, uses_index, uses_month}
use Rattle.rr_model.specs.Graph.Validity.{IsIndex, IsValidPattern, LiesIfUsed}
use Rattle.rr_model.specs.declared.graph.Form.{Form}
use Rattle.rr_model.specs.declared.graph.Form.TheVariants as form
use Rattle.rr_model.specs.declared.graph.Pattern.{Pattern}
use Rattle.rr_family.specs.GraphProfile.{form_place, pattern_key}
use Rattle.rr_family.proofs.PlaceLemmas.{one_form, one_index, one_weekday, weekday_most}
use Rattle.rr_graphfind.specs.Order.{SameMembers, least_pattern, one_if_used}
use Rattle.rr_graphfind.specs.Search.{counts_on}
use Rattle.rr_graphfind.proofs.OrderLemmas.{NoneLess, index_bounds}

-- ---- types

-- what a type asks of a member, another of the same place asks too
pub same_use : (uses : Form → Bool) (MayStand : Bool → Type 0) (f g : Form) (used : Bool) → form_place f ≡ form_place g → used ≡ uses g
    → MayStand (uses f) → MayStand used
same_use uses MayStand f g used same is may = subst MayStand (ap uses (one_form f g same) ∙ sym is) may

-- ---- the least members

least_lies : (used : Bool) (high : ℕ) → 1 ≤ high → LiesIfUsed used 1 high 0 (one_if_used used)
least_lies true high l = (omega arith, l)
least_lies false high l = refl

least_week : (used : Bool) → LiesIfUsed used 0 6 6 6
least_week true = (omega arith, omega arith)
least_week false = refl

least_index : (used : Bool) → IsIndex used (pos 1)
least_index true = inl (omega (arith, ints), omega (arith, ints))
least_index false = refl

at_least : (used : Bool) (high n : ℕ) → LiesIfUsed used 1 high 0 n → one_if_used used ≤ n
at_least true high n h = h.0
at_least false high n h = omega arith

pub least_valid : (f : Form) (interval : ℕ) → 1 ≤ interval → interval ≤ most_interval f → IsValidPattern (least_pattern f interval)
least_valid f interval l h = record {
  interval_low = l;
  interval_high = h;
  days = least_lies (uses_days f) 127 (omega arith);
  first_day = least_week (uses_first_day f);
  index = least_index (uses_index f);
  day_of_month = least_lies (uses_day_of_month f) 31 (omega arith);
  month = least_lies (uses_month f) 12 (omega arith);
}

-- another pattern of the type has no lesser members
pub rest_of_type : (f : Form) (interval : ℕ) (other : Pattern) → IsValidPattern other → form_place other.form ≡ form_place f
    → NoneLess (drop 2 (pattern_key other)) (drop 2 (pattern_key (least_pattern f interval)))
rest_of_type f interval other v same =
    let e : other.form ≡ f = one_form other.form f same in (
      omega arith,
      (
        subst (λ g. one_if_used (uses_day_of_month g) ≤ other.day_of_month) e (at_least (uses_day_of_month other.form) 31 other.day_of_month v.day_of_month),
        (
          subst (λ g. one_if_used (uses_month g) ≤ other.month) e (at_least (uses_month other.form) 12 other.month v.month),
          (
            (index_bounds (uses_index other.form) other.index v.index).2,
            (subst (λ g. one_if_used (uses_days g) ≤ other.days) e (at_least (uses_days other.form) 127 other.days v.days), tt),
          ),
        ),
      ),
    )

-- no pattern has lesser members than the first daily one
pub rest_of_all : (interval : ℕ) (other : Pattern) → IsValidPattern other
    → NoneLess (drop 1 (pattern_key other)) (drop 1 (pattern_key (least_pattern form.Daily interval)))
rest_of_all interval other v =
    (omega arith, (omega arith, (omega arith, (omega arith, ((index_bounds (uses_index other.form) other.index v.index).2, (omega arith, tt))))))

-- ---- members replaced

-- the pattern with other members
abbrev pub pattern_with : Pattern → ℕ → ℕ → ℕ → ℕ → ℤ → Pattern
pattern_with p first_day day_of_month month days index = record {
  form = p.form;
  interval = p.interval;
  day_of_month = day_of_month;
  month = month;
  days = days;
  first_day = first_day;
  index = index;
}

pub valid_with : (p : Pattern) → IsValidPattern p → (first_day day_of_month month days : ℕ) (index : ℤ)
    → LiesIfUsed (uses_first_day p.form) 0 6 6 first_day
    → LiesIfUsed (uses_day_of_month p.form) 1 31 0 day_of_month → LiesIfUsed (uses_month p.form) 1 12 0 month → LiesIfUsed (uses_days p.form) 1 127 0 days
    → IsIndex (uses_index p.form) index → IsValidPattern (pattern_with p first_day day_of_month month days index)
valid_with p v first_day day_of_month month days index a b c d e = record {
  interval_low = v.interval_low;
  interval_high = v.interval_high;
  days = d;
  first_day = a;
  index = e;
  day_of_month = b;
  month = c;
}

-- an index is read as it stands
pub index_as_read : (used : Bool) (index : ℤ) → IsIndex used index → to_z w8 (of_z w8 index) ≡ index
index_as_read used index is = (let bounds = index_bounds used index is in let low = bounds.0 in let high = bounds.1 in omega (arith, ints, low, high))

-- ---- a pattern with all members of another

pub same_pattern : (p q : Pattern) → IsValidPattern p → IsValidPattern q → SameMembers 7 p q → p ≡ q
same_pattern p q vp vq h =
    let after_type = h.1.1 in
    let f = one_form p.form q.form h.1.0 in
    let p_day = weekday_most (uses_first_day p.form) p.first_day vp.first_day in
    let q_day = weekday_most (uses_first_day q.form) q.first_day vq.first_day in
    let d = one_weekday p.first_day q.first_day p_day q_day after_type.0 in
    let after_month = after_type.1.1.1 in
    let x = one_index (uses_index p.form) (uses_index q.form) p.index q.index vp.index vq.index after_month.0 in
    λ i. record {
      form = f i;
      interval = h.0 i;
      day_of_month = after_type.1.0 i;
      month = after_type.1.1.0 i;
      days = after_month.1.0 i;
      first_day = d i;
      index = x i;
    }

-- ---- patterns that one day rules out

month_of_form : (f : Form) (p : Pattern) (d : ℤ) → uses_month f ≡ true → form_holds f p d ≡ true → (month_of d == p.month) ≡ true
month_of_form form.Daily p d uses h = absurd (false≢true uses)
month_of_form form.Weekly p d uses h = absurd (false≢true uses)
month_of_form form.AbsoluteMonthly p d uses h = absurd (false≢true uses)
month_of_form form.RelativeMonthly p d uses h = absurd (false≢true uses)
month_of_form form.AbsoluteYearly p d uses h = (and_parts _ _ h).0
month_of_form form.RelativeYearly p d uses h = (and_parts _ _ h).0

pub counts_in : (p : Pattern) (first d : ℤ) → is_pattern_day p first d ≡ true → counts_on p first d ≡ true
unfolding is_pattern_day
counts_in p first d h = (and_parts _ _ h).0

pub month_in : (p : Pattern) (first d : ℤ) → uses_month p.form ≡ true → is_pattern_day p first d ≡ true → (month_of d == p.month) ≡ true
unfolding is_pattern_day
month_in p first d uses h = month_of_form p.form p d uses (and_parts _ _ h).1
