-- A report as one page of HTML.
use Rattle.std.specs.Prelude.{◌≡◌, ℕ, Bool, true, false, List, [], ◌∷◌, ◌++◌}
use Rattle.rr_facts.specs.Advice.{file_advice}
use Rattle.rr_facts.specs.Facts.{Facts}
use Rattle.rr_html.specs.Markup.{IsMarkup, html_text}
use Rattle.rr_html.specs.Pieces.{piece_text}
use Rattle.rr_html.specs.declared.frame.FramePiece.TheVariants as frame
use Rattle.rr_html.specs.declared.piece.Piece.TheVariants.{Frame}
use Rattle.rr_model.specs.declared.verdict.Side.{Side}
use Rattle.rr_page.specs.Class.{is_shown, left_behind}
use Rattle.rr_page.specs.Event.{event_html}
use Rattle.rr_page.specs.Head.{by_side, files_html, head_html, start_html}
use Rattle.rr_page.specs.Sections.{advice_html, rest_html}
use Rattle.rr_page.specs.declared.class.Class.TheVariants as class
use Rattle.rr_page.specs.declared.class.TheConstants.{MOST_EVENTS}
use Rattle.rr_seam.specs.Stated.{Stated}
use Rattle.rr_seam.specs.declared.file.FileRefusal.{FileRefusal}
use Rattle.rr_trip.specs.Details.{IsDetail}
use Rattle.rr_trip.specs.Printed.{file_refusal_text}
use Rattle.rr_trip.specs.declared.detail.Detail.{Detail}
use Rattle.rr_trip.specs.declared.report.ReportLine.{ReportLine}

-- a text of which this is so is put behind another
pub record IsPut (Is : List ℕ → Type 0) (old new : List ℕ) : Type 0 where
  pub text : List ℕ
  pub is_text : Is text
  pub put : new ≡ old ++ text

-- ---- the events to look at

-- the text is that of the events of a line, with what the files state of them
pub record IsEvent (a b : List ℕ → Stated) (line : ReportLine) (text : List ℕ) : Type 0 where
  pub detail : Detail
  pub is_detail : IsDetail a b line detail
  pub is : text ≡ event_html line detail

-- the events of a line if it is shown, otherwise the text is empty
abbrev pub IsEventIf : (List ℕ → Stated) → (List ℕ → Stated) → Bool → ReportLine → List ℕ → Type 0
IsEventIf a b true line text = IsEvent a b line text
IsEventIf a b false line text = text ≡ []

-- the events to look at of these lines, `left` at most, one after another
pub data AreEvents (a b : List ℕ → Stated) : ℕ → List ReportLine → List ℕ → Type 0 where
  end : (left : ℕ) → AreEvents a b left [] []
  line : (left : ℕ) (line : ReportLine) (lines : List ReportLine) (text rest : List ℕ) → IsEventIf a b (is_shown class.Look left line) line text
      → AreEvents a b (left_behind class.Look left line) lines rest → AreEvents a b left (line ∷ lines) (text ++ rest)

-- ---- pages

-- The page tells of these lines, whose events state this in A and in B: its head, the first events to look at, and all the others. It is
-- fixed pieces and escaped texts alone.
pub record IsPageOf (facts : Facts) (a b : List ℕ → Stated) (lines : List ReportLine) (page : List ℕ) : Type 0 where
  pub events : List ℕ
  pub are_events : AreEvents a b MOST_EVENTS lines events
  pub is : page ≡ head_html facts lines ++ events ++ rest_html facts lines
  pub markup : ∥ IsMarkup page ∥₁

-- why a whole file is refused, and what to do
unfoldable pub file_refusal_html : Side → FileRefusal → List ℕ
file_refusal_html side refusal =
    piece_text (by_side side (Frame frame.RefusedFileA) (Frame frame.RefusedFileB)) ++ html_text (file_refusal_text refusal)
    ++ piece_text (Frame frame.RefusedFileEnd) ++ advice_html (file_advice refusal)

-- the page of the refusal of a whole file: both files, why it is refused, and what to do
unfoldable pub refusal_html : Facts → Side → FileRefusal → List ℕ
refusal_html facts side refusal =
    start_html frame.Unreadable ++ piece_text (Frame frame.LeadUnreadable) ++ html_text facts.version ++ piece_text (Frame frame.LeadEnd)
    ++ files_html facts ++ file_refusal_html side refusal ++ piece_text (Frame frame.PageFoot)

-- The page tells that a whole file is refused. It is fixed pieces and escaped texts alone.
pub record IsPageOfRefusal (facts : Facts) (side : Side) (refusal : FileRefusal) (page : List ℕ) : Type 0 where
  pub is : page ≡ refusal_html facts side refusal
  pub markup : ∥ IsMarkup page ∥₁
