-- What is the first of a set is the first of each set with the same occurrences.
use Rattle.std.proofs.Common.{ℤ}
use Rattle.rr_family.specs.GraphProfile.{IsFirstPattern, IsPatternOf}
use Rattle.rr_family.specs.Profile.{IsFirstRule, IsRuleOf}
use Rattle.rr_model.specs.Moment.{Occurrences}
use Rattle.rr_model.specs.Sets.Verdict.{HaveEqualOccurrences}
use Rattle.rr_model.specs.declared.graph.Pattern.{Pattern}
use Rattle.rr_model.specs.declared.graph.Range.{Range}
use Rattle.rr_model.specs.declared.kind.Kind.{Kind}
use Rattle.rr_model.specs.declared.vcal.VRule.{VRule}
use Rattle.rr_model.proofs.EqualLemmas.{HaveEqualOccurrences-sym, HaveEqualOccurrences-trans}
use Rattle.rr_translate.specs.Translated.{HasNoPattern, HasNoRule}

module _ (P Q : Occurrences) (same : HaveEqualOccurrences P Q) where
  rule_of : (rule : VRule) (kind : Kind) (start : ℤ) → IsRuleOf P rule kind start → IsRuleOf Q rule kind start
  rule_of rule kind start r =
      record { valid = r.valid; few = r.few; end = r.end; begins = r.begins; years = r.years; equal = HaveEqualOccurrences-trans _ P Q r.equal same }

  pattern_of : (pattern : Pattern) (range : Range) (kind : Kind) (start : ℤ) → IsPatternOf P pattern range kind start → IsPatternOf Q pattern range kind start
  pattern_of pattern range kind start r = record { valid = r.valid; equal = HaveEqualOccurrences-trans _ P Q r.equal same }

module _ (P Q : Occurrences) (same : HaveEqualOccurrences P Q) where
  pub first_rule_of : (rule : VRule) (kind : Kind) (start : ℤ) → IsFirstRule P rule kind start → IsFirstRule Q rule kind start
  first_rule_of rule kind start f = record {
    is_rule = rule_of P Q same rule kind start f.is_rule;
    none_before = λ other k s r. f.none_before other k s (rule_of Q P (HaveEqualOccurrences-sym P Q same) other k s r);
    sketch = f.sketch;
    valid = f.valid;
    stands = HaveEqualOccurrences-trans _ P Q f.stands same;
    days = f.days;
    window = f.window;
    items = f.items;
    ends = f.ends;
  }

  pub no_rule_of : HasNoRule P → HasNoRule Q
  no_rule_of none rule kind start r = none rule kind start (rule_of Q P (HaveEqualOccurrences-sym P Q same) rule kind start r)

  pub first_pattern_of : (pattern : Pattern) (range : Range) (kind : Kind) (start : ℤ) → IsFirstPattern P pattern range kind start
      → IsFirstPattern Q pattern range kind start
  first_pattern_of pattern range kind start f = record {
    is_pattern = pattern_of P Q same pattern range kind start f.is_pattern;
    none_before = λ other r k s p. f.none_before other r k s (pattern_of Q P (HaveEqualOccurrences-sym P Q same) other r k s p);
    begins = f.begins;
    sketch = f.sketch;
    valid = f.valid;
    stands = HaveEqualOccurrences-trans _ P Q f.stands same;
    ends = f.ends;
  }

  pub no_pattern_of : HasNoPattern P → HasNoPattern Q
  no_pattern_of none pattern range kind start p =
      none pattern range kind start (pattern_of Q P (HaveEqualOccurrences-sym P Q same) pattern range kind start p)
