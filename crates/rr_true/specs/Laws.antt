-- Laws of the moments that local times name (RFC 5545, section 3.3.5).
use Rattle.std.specs.Prelude.{◌≡◌, ◌↔◌, ℕ, ◌*◌, ◌≤◌, None, Some, ℤ, pos, ◌+ℤ◌, ◌-ℤ◌, ◌*ℤ◌, ◌≤ℤ◌, ◌<ℤ◌}
use Rattle.std.specs.Int.{◌∣◌}
use Rattle.rr_model.specs.Moment.{Occurrences}
use Rattle.rr_model.specs.Whole.Periodic.{AgreeFrom, RepeatsFrom}
use Rattle.rr_model.specs.Sets.Sketch.{StandsIn}
use Rattle.rr_model.specs.Sets.Verdict.{HaveEqualOccurrences, IsEqualVerdict}
use Rattle.rr_model.specs.declared.kind.Kind.TheVariants.{Moments}
use Rattle.rr_model.specs.declared.sketch.Sketch.{Sketch}
use Rattle.rr_model.specs.declared.verdict.Side.{Side}
use Rattle.rr_model.specs.declared.verdict.Verdict.TheVariants.{No}
use Rattle.rr_true.specs.Moments.{IsOffset, IsTrueMoment}
use Rattle.rr_true.specs.Occurrences.{AreEqualForAll, HasNoMomentBefore, IsFirstOf, IsPlain, OccurrencesRepeat, TrueOf, utc}

-- A local time names one moment at most.
abbrev pub TrueMomentIsOne : Type 0
TrueMomentIsOne = (offset : ℤ → ℤ) (t u v : ℤ) → IsTrueMoment offset t u → IsTrueMoment offset t v → u ≡ v

-- A true moment is less than a day from its local time.
abbrev pub TrueMomentIsNear : Type 0
TrueMomentIsNear =
    (offset : ℤ → ℤ) (t u : ℤ) → IsOffset offset → IsTrueMoment offset t u → ((t -ℤ pos 86_400) <ℤ u) × (u <ℤ (t +ℤ pos 86_400))

-- Zones that agree from q on give a local time a day later the same moment.
abbrev pub AgreeingZonesAgree : Type 0
AgreeingZonesAgree =
    (f g : ℤ → ℤ) (q t u : ℤ) → IsOffset f → IsOffset g → AgreeFrom f g q → (q +ℤ pos 86_400) ≤ℤ t → IsTrueMoment f t u → IsTrueMoment g t u

-- If zones agree from a day before the first occurrence on, sets with equal local times have equal true moments.
abbrev pub EqualZonesEqualMoments : Occurrences → Occurrences → Type 0
EqualZonesEqualMoments P Q =
    (f g : ℤ → ℤ) (q : ℤ) → IsOffset f → IsOffset g → AgreeFrom f g q → HasNoMomentBefore P (q +ℤ pos 86_400)
    → HasNoMomentBefore Q (q +ℤ pos 86_400) → HaveEqualOccurrences P Q → HaveEqualOccurrences (TrueOf f P) (TrueOf g Q)

-- If a zone repeats, so do the moments that local times name.
abbrev pub TrueMomentsRepeat : Type 0
TrueMomentsRepeat =
    (offset : ℤ → ℤ) (q : ℤ) (c : ℕ) (t u : ℤ) → IsOffset offset → RepeatsFrom offset q c → (q +ℤ pos 86_400) ≤ℤ t
    → IsTrueMoment offset t u ↔ IsTrueMoment offset (t +ℤ pos c) (u +ℤ pos c)

-- If a zone and a set repeat after the same time, so do the true moments, from two days later on.
abbrev pub TrueSetRepeats : Occurrences → Type 0
TrueSetRepeats P =
    (offset : ℤ → ℤ) (q : ℤ) (c : ℕ) → IsOffset offset → RepeatsFrom offset q c → OccurrencesRepeat P q (pos c)
    → OccurrencesRepeat (TrueOf offset P) (q +ℤ pos 172_800) (pos c)

-- In UTC local times are moments.
abbrev pub UtcIsItself : Occurrences → Type 0
UtcIsItself P = (u : ℤ) → TrueOf utc P Moments u ↔ P Moments u

-- In one zone, whichever it is, sets with equal local times have equal true moments.
abbrev pub OneZoneEqualMoments : Occurrences → Occurrences → Type 0
OneZoneEqualMoments P Q = (offset : ℤ → ℤ) → HaveEqualOccurrences P Q → HaveEqualOccurrences (TrueOf offset P) (TrueOf offset Q)

-- In one zone a first difference of local times is the first difference of moments, if it lies plainly.
abbrev pub LocalNoIsTrueNo : Occurrences → Occurrences → Type 0
LocalNoIsTrueNo P Q =
    (offset : ℤ → ℤ) (t u : ℤ) (side : Side) → IsPlain offset t u → IsEqualVerdict P Q (No Moments t side)
    → IsEqualVerdict (TrueOf offset P) (TrueOf offset Q) (No Moments u side)

-- A set that has a first moment is never the same for all observers without a zone and in one.
abbrev pub FloatingDiffers : Occurrences → Occurrences → Type 0
FloatingDiffers P Q = (zone : ℤ → ℤ) (t : ℤ) → IsFirstOf P t → AreEqualForAll None P (Some zone) Q → ⊥

-- From the settled day on what stands in a sketch repeats after each multiple of its period.
abbrev pub SketchRepeats : Sketch → Type 0
SketchRepeats s = (q : ℤ) (n : ℕ) → (s.settled *ℤ pos 86_400) ≤ℤ q → s.period ∣ n → OccurrencesRepeat (StandsIn s) q (pos (n * 86_400))

-- Zones whose offsets agree from q on for one common cycle agree from q on for ever.
abbrev pub ZonesAgreeForEver : Type 0
ZonesAgreeForEver =
    (f g : ℤ → ℤ) (q : ℤ) (c : ℕ) → 1 ≤ c → RepeatsFrom f q c → RepeatsFrom g q c
    → ((u : ℤ) → q ≤ℤ u → u <ℤ (q +ℤ pos c) → f u ≡ g u) → AgreeFrom f g q

-- Zones that agree before h give a local time a day earlier the same moment.
abbrev pub AgreeingBelow : Type 0
AgreeingBelow =
    (f g : ℤ → ℤ) (h t u : ℤ) → IsOffset f → IsOffset g → ((v : ℤ) → v <ℤ h → f v ≡ g v) → (t +ℤ pos 86_401) ≤ℤ h
    → IsTrueMoment f t u → IsTrueMoment g t u
