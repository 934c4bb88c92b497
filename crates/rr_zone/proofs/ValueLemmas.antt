-- What is written in place of date values.
use Rattle.std.proofs.Common.{◌≡◌, ◌==◌, ℕ, ℤ, Bool, List, [], ◌∷◌, ◌++◌, append_assoc, append-nil, Option, option_map}
use Rattle.std.specs.Prelude.{IfOk, option_and_then}
use Rattle.std.specs.List.{join_with_byte}
use Rattle.std.proofs.Common.{None, Some, Result, Ok, Err, OnOk, refl, sym, ap, ◌∙◌}
use Rattle.rr_model.specs.Text.RuleValues.{pieces}
use Rattle.rr_model.specs.Text.Rules.{split_once}
use Rattle.rr_zone.specs.Values.{behind_commas, date_as, local_dates, utc_date, utc_dates, utc_value, with_date, written_as}
use Rattle.rr_zone.specs.OtherZones.{if_all}
use Rattle.rr_zone.specs.declared.clock.LocalTime.{LocalTime}
use Rattle.rr_zone.specs.declared.value.Role.{Role}
use Rattle.rr_zone.specs.declared.value.Written.{Written}
use Rattle.rr_zone.specs.declared.value.Written.TheVariants.{Kept, LeftOut, At}
use Rattle.rr_zone.proofs.SplitLemmas.{cut, split_some, uncut}

-- ---- date values, each behind a comma

module _ (local : ℤ → LocalTime) (role : Role) where
  abbrev pub dates_of : List ℕ → List ℕ
  dates_of text = behind_commas (local_dates local role (pieces 44 text))

  one_date : (text : List ℕ) (dates : List (List ℕ)) (w : Written) → behind_commas (with_date text w dates) ≡ date_as text w ++ behind_commas dates
  one_date text dates Kept = refl
  one_date text dates LeftOut = refl
  one_date text dates (At at) = refl

  -- one date is written
  pub dates_more : (old new all text piece rest : List ℕ) → split_once 44 text ≡ Some (piece, rest) → new ≡ old ++ date_as piece (written_as local role piece)
      → old ++ dates_of text ≡ all → new ++ dates_of rest ≡ all
  dates_more old new all text piece rest at more so_far =
      let parts : dates_of text ≡ date_as piece (written_as local role piece) ++ dates_of rest =
      ap (λ (ps : List (List ℕ)). behind_commas (local_dates local role ps)) (cut 44 text piece rest at).0
      ∙ one_date piece (local_dates local role (pieces 44 rest)) (written_as local role piece) in
      ap (λ (x : List ℕ). x ++ dates_of rest) more ∙ append_assoc old (date_as piece (written_as local role piece)) (dates_of rest)
      ∙ ap (λ (x : List ℕ). old ++ x) (sym parts) ∙ so_far

  -- the last date is written
  pub dates_last : {A E : Type 0} (r : Result A E) (old new all text : List ℕ) → split_once 44 text ≡ None
      → OnOk r (new ≡ old ++ date_as text (written_as local role text)) → old ++ dates_of text ≡ all → OnOk r (new ≡ all)
  dates_last (Ok x) old new all text at more so_far =
      let parts : dates_of text ≡ date_as text (written_as local role text) =
      ap (λ (ps : List (List ℕ)). behind_commas (local_dates local role ps)) (uncut 44 text at)
      ∙ one_date text [] (written_as local role text) ∙ append-nil (date_as text (written_as local role text)) in
      more ∙ ap (λ (x : List ℕ). old ++ x) (sym parts) ∙ so_far
  dates_last (Err e) old new all text at more so_far = tt

-- ---- local times in UTC

module _ (moment : ℤ → Option ℤ) where
  join_more : (x first : List ℕ) (more : List (List ℕ))
      → option_map (join_with_byte 44) (option_map (λ ds. x ∷ ds) (utc_dates moment (first ∷ more)))
      ≡ option_map (λ m. x ++ (44 ∷ m)) (option_map (join_with_byte 44) (utc_dates moment (first ∷ more)))
  join_more x first more = by (utc_date moment first) (utc_dates moment more)
    where
      by : (d : Option (List ℕ)) (ds : Option (List (List ℕ)))
          → option_map (join_with_byte 44) (option_map (λ all. x ∷ all) (option_and_then (λ date. option_map (λ dates. date ∷ dates) ds) d))
          ≡ option_map (λ m. x ++ (44 ∷ m)) (option_map (join_with_byte 44) (option_and_then (λ date. option_map (λ dates. date ∷ dates) ds) d))
      by None ds = refl
      by (Some d) None = refl
      by (Some d) (Some ds) = refl

  -- a date in front of others
  abbrev pub before_more : Option (List ℕ) → Option (List ℕ) → Option (List ℕ)
  before_more date more = option_and_then (λ d. option_map (λ m. d ++ (44 ∷ m)) more) date

  one_utc : (piece first : List ℕ) (more : List (List ℕ))
      → option_map (join_with_byte 44) (utc_dates moment (piece ∷ first ∷ more))
      ≡ before_more (utc_date moment piece) (option_map (join_with_byte 44) (utc_dates moment (first ∷ more)))
  one_utc piece first more = by (utc_date moment piece)
    where
      by : (d : Option (List ℕ))
          → option_map (join_with_byte 44) (option_and_then (λ date. option_map (λ dates. date ∷ dates) (utc_dates moment (first ∷ more))) d)
          ≡ before_more d (option_map (join_with_byte 44) (utc_dates moment (first ∷ more)))
      by None = refl
      by (Some x) = join_more x first more

  utc_parts : (text piece rest : List ℕ) → split_once 44 text ≡ Some (piece, rest)
      → utc_value moment text ≡ before_more (utc_date moment piece) (utc_value moment rest)
  utc_parts text piece rest at =
      let some = split_some (λ c. c == 44) rest in
      ap (λ (ps : List (List ℕ)). option_map (join_with_byte 44) (utc_dates moment ps)) ((cut 44 text piece rest at).0 ∙ ap (λ (ps : List (List ℕ)). piece ∷ ps) some.is)
      ∙ one_utc piece some.first some.more
      ∙ ap (λ (ps : List (List ℕ)). before_more (utc_date moment piece) (option_map (join_with_byte 44) (utc_dates moment ps))) (sym some.is)

  abbrev pub behind : List ℕ → Option (List ℕ) → Option (List ℕ)
  behind old text = option_map (λ more. old ++ more) text

  -- one date is written, and the comma behind it
  pub utc_more : (old mid new text piece rest : List ℕ) (all : Option (List ℕ)) → split_once 44 text ≡ Some (piece, rest)
      → Some mid ≡ behind old (utc_date moment piece) → new ≡ mid ++ 44 ∷ [] → behind old (utc_value moment text) ≡ all
      → behind new (utc_value moment rest) ≡ all
  utc_more old mid new text piece rest all at put comma so_far =
      by (utc_date moment piece) (utc_value moment rest) put ∙ ap (behind old) (sym (utc_parts text piece rest at)) ∙ so_far
    where
      by : (d more : Option (List ℕ)) → Some mid ≡ behind old d → behind new more ≡ behind old (before_more d more)
      by None more h = absurd (cc)
      by (Some x) None h = refl
      by (Some x) (Some m) h =
          let same : mid ≡ old ++ x = cc in
          ap Some (ap (λ (t : List ℕ). t ++ m) (comma ∙ ap (λ (t : List ℕ). t ++ 44 ∷ []) same)
          ∙ append_assoc (old ++ x) (44 ∷ []) m ∙ append_assoc old x (44 ∷ m))

  -- the moment of one can't be told
  pub utc_none : (old text piece rest : List ℕ) (all : Option (List ℕ)) → split_once 44 text ≡ Some (piece, rest)
      → None ≡ behind old (utc_date moment piece) → behind old (utc_value moment text) ≡ all → None ≡ all
  utc_none old text piece rest all at none so_far =
      by (utc_date moment piece) none ∙ ap (behind old) (sym (utc_parts text piece rest at)) ∙ so_far
    where
      by : (d : Option (List ℕ)) → None ≡ behind old d → None ≡ behind old (before_more d (utc_value moment rest))
      by None h = refl
      by (Some x) h = absurd (cc)

  -- the last one
  pub utc_last : {E : Type 0} (r : Result Bool E) (old new text : List ℕ) (all : Option (List ℕ)) → split_once 44 text ≡ None
      → IfOk r (λ is. if_all is new ≡ behind old (utc_date moment text)) → behind old (utc_value moment text) ≡ all
      → IfOk r (λ is. if_all is new ≡ all)
  utc_last (Err e) old new text all at h so_far = tt
  utc_last (Ok is) old new text all at h so_far =
      let one : utc_value moment text ≡ utc_date moment text =
      ap (λ (ps : List (List ℕ)). option_map (join_with_byte 44) (utc_dates moment ps)) (uncut 44 text at) ∙ by (utc_date moment text) in
      h ∙ ap (behind old) (sym one) ∙ so_far
    where
      by : (d : Option (List ℕ)) → option_map (join_with_byte 44) (option_and_then (λ date. option_map (λ dates. date ∷ dates) (Some [])) d) ≡ d
      by None = refl
      by (Some x) = refl
