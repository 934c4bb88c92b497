-- What is said of two subjects that are combined: there is one answer, and it is the one that calls give.
use Rattle.std.proofs.Common.{◌≡◌, inl, inr, ℕ, List, refl, sym, ap, ◌∙◌}
use Rattle.std.specs.Prelude.{Ok, Err}
use Rattle.rr_algebra.specs.Combined.{IsCombinedJudged, combined_occurrences}
use Rattle.rr_days.specs.declared.op.Op.{Op}
use Rattle.rr_canon.specs.Versions.{text_in}
use Rattle.rr_canon.specs.declared.version.Version.TheVariants.{Second}
use Rattle.rr_model.specs.Moment.{Occurrences}
use Rattle.rr_model.specs.Sets.Printable.{IsTextOf}
use Rattle.rr_model.specs.Sets.Sketch.{IsDaySequence, StandsFor, StandsIn}
use Rattle.rr_model.specs.declared.refusal.Fault.{Fault}
use Rattle.rr_model.specs.declared.refusal.Fault.TheVariants.{NoMemory, Refused}
use Rattle.rr_model.specs.declared.refusal.Refusal.TheVariants.{MixedSets, TooManyMoments}
use Rattle.rr_model.specs.declared.sketch.Sketch.{Sketch}
use Rattle.rr_model.specs.declared.verdict.Side.TheVariants.{Both}
use Rattle.rr_answer.specs.Combined.{IsCombinedSaid}
use Rattle.rr_answer.specs.Outcome.{IsFaultSaid}
use Rattle.rr_answer.specs.Said.{Answer, answer_of_refusal}
use Rattle.rr_answer.specs.declared.status.Status.TheVariants.{Yes}
use Rattle.rr_answer.proofs.CanonLemmas.{canon_text_is_one, text_kept}
use Rattle.rr_answer.proofs.CombinedLemmas.{combined_kept, is_mixed, is_mixed_union, too_many_combined, too_many_seconds}
use Rattle.rr_answer.proofs.DoneLemmas.{done_is_one}

pub combined_said_is_one : (op : Op) (P Q : Occurrences) (x y : Answer) → IsCombinedSaid op P Q x → IsCombinedSaid op P Q y → x ≡ y
combined_said_is_one op P Q x y (inl p) (inl q) = p.1 ∙ sym q.1
combined_said_is_one op P Q x y (inl p) (inr (inl q)) = absurd (q.0 p.0)
combined_said_is_one op P Q x y (inl p) (inr (inr q)) = absurd (q.0 p.0)
combined_said_is_one op P Q x y (inr (inl p)) (inl q) = absurd (p.0 q.0)
combined_said_is_one op P Q x y (inr (inl p)) (inr (inl q)) = p.2 ∙ sym q.2
combined_said_is_one op P Q x y (inr (inl p)) (inr (inr q)) = absurd (q.1 p.1)
combined_said_is_one op P Q x y (inr (inr p)) (inl q) = absurd (p.0 q.0)
combined_said_is_one op P Q x y (inr (inr p)) (inr (inl q)) = absurd (p.1 q.1)
combined_said_is_one op P Q x y (inr (inr p)) (inr (inr q)) = done_is_one _ (canon_text_is_one Second (combined_occurrences op P Q)) x y p.2 q.2

module _ (op : Op) (a b : Sketch) (wa : IsDaySequence a) (wb : IsDaySequence b) (P Q : Occurrences) (f : StandsFor a P) (g : StandsFor b Q) where
  pub combined_fault :
      (X : Type 0) (fault : Fault) (answer : Answer) → IsCombinedJudged {X = X} MixedSets TooManyMoments op a b (Err fault)
      → IsFaultSaid Both fault answer → IsCombinedSaid op P Q answer
  combined_fault X (Refused refusal) answer (inl (e, mixed)) said = inl (is_mixed a b wa.valid wb.valid P Q f g op mixed, said ∙ ap (answer_of_refusal Both) e)
  combined_fault X (Refused refusal) answer (inr (e, alike, many)) said =
      inr (inl (
        (λ h. alike (is_mixed_union a b wa.valid wb.valid P Q f g op h)),
        too_many_seconds a b wa.valid wb.valid P Q f g op many,
        said ∙ ap (answer_of_refusal Both) e,
      ))
  combined_fault X NoMemory answer h said = absurd said

  pub combined_text :
      {X : Type 0} (c : Sketch) (x : X) (bytes : List ℕ) → IsCombinedJudged MixedSets TooManyMoments op a b (Ok x)
      → StandsFor c (combined_occurrences op (StandsIn a) (StandsIn b)) → IsTextOf (text_in Second) (StandsIn c) bytes
      → IsCombinedSaid op P Q (record { status = Yes; bytes = bytes })
  combined_text c x bytes judged stands text =
      inr (inr (
        (λ h. judged.0 (is_mixed_union a b wa.valid wb.valid P Q f g op h)),
        (λ h. judged.1 (too_many_combined a b wa.valid wb.valid P Q f g op h)),
        (
          refl,
          text_kept (text_in Second) (combined_occurrences op (StandsIn a) (StandsIn b)) (combined_occurrences op P Q) bytes
              (combined_kept a b wa.valid wb.valid P Q f g op)
              (text_kept (text_in Second) (StandsIn c) (combined_occurrences op (StandsIn a) (StandsIn b)) bytes stands text),
        ),
      ))
