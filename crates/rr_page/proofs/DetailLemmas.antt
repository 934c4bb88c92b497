-- What is told of a difference can be printed.
use Rattle.std.proofs.Common.{◌≡◌, inl, inr, ℕ, List, Option, None, Some, sym, subst}
use Rattle.std.specs.Prelude.{IfSome}
use Rattle.rr_model.specs.declared.sketch.Sketch.{Sketch}
use Rattle.rr_model.specs.declared.verdict.Verdict.{Verdict}
use Rattle.rr_model.specs.declared.verdict.Verdict.TheVariants.{Yes, No}
use Rattle.rr_seam.specs.Stated.{Stated}
use Rattle.rr_trip.specs.Details.{IsDetail, IsDifferenceBy, IsDifferenceFor}
use Rattle.rr_trip.specs.Printed.{IsPrintableFurther}
use Rattle.rr_trip.specs.Report.{stated_in}
use Rattle.rr_trip.specs.declared.detail.Detail.{Detail}
use Rattle.rr_trip.specs.declared.detail.Difference.{Difference}
use Rattle.rr_trip.specs.declared.report.ReportLine.{ReportLine}

-- how many come after the first can be printed, if a difference is told
abbrev IsPrinted : Option Difference → Type 0
IsPrinted difference = IfSome difference (λ (d : Difference). IsPrintableFurther d.further)

none_told : (difference : Option Difference) → difference ≡ None → IsPrinted difference
none_told difference e = subst IsPrinted (sym e) tt

by_verdict : (verdict : Verdict) (a b : Sketch) (difference : Option Difference) → IsDifferenceBy verdict a b difference → IsPrinted difference
by_verdict Yes a b difference h = none_told difference h
by_verdict (No kind at side) a b None h = tt
by_verdict (No kind at side) a b (Some d) h = h.printable

of_both : (a b : Option Stated) (difference : Option Difference) → IsDifferenceFor a b difference → IsPrinted difference
of_both None None difference h = none_told difference h
of_both (Some a) None difference h = none_told difference h
of_both None (Some b) difference h = none_told difference h
of_both (Some a) (Some b) difference (inl h) = none_told difference h.1
of_both (Some a) (Some b) difference (inr h) = by_verdict h.verdict h.days_a h.days_b difference h.tells

pub printable_further : (a b : List ℕ → Stated) (line : ReportLine) (detail : Detail) → IsDetail a b line detail
    → IfSome detail.difference (λ (d : Difference). IsPrintableFurther d.further)
printable_further a b line detail h = of_both (stated_in a line.in_a.items) (stated_in b line.in_b.items) detail.difference h.differs
