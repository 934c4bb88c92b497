-- The statuses that an answer can have.
use Rattle.std.proofs.Common.{◌≡◌, ℕ, List, Option, Some, None, Result, Ok, Err, sym, subst}
use Rattle.rr_facts.specs.Facts.{Facts}
use Rattle.rr_seam.specs.declared.file.FileRefusal.{FileRefusal}
use Rattle.rr_trip.specs.Zoned.{ZonedCalendar}
use Rattle.rr_trip.specs.declared.report.Status.{Status as Ending}
use Rattle.rr_trip.specs.declared.report.Status.TheVariants as ending
use Rattle.rr_compare.specs.Answer.{Answer, IsAnswer, IsCompared, IsComparedWith, IsOfBoth, status_by}
use Rattle.rr_compare.specs.Calendars.{Texts, new_calendar, old_calendar}
use Rattle.rr_compare.specs.Facts.{facts_on}
use Rattle.rr_compare.specs.Words.{Asked, Request, comparison, help, version}
use Rattle.rr_compare.specs.declared.status.Status.{Status}
use Rattle.rr_compare.specs.declared.status.Status.TheVariants.{Refused}
use Rattle.rr_calendars.specs.Run.{IsEnding}

ending_by : (request : Request) (e : Ending) → IsEnding (Some (comparison request)) (status_by e)
ending_by request ending.Equal = tt
ending_by request ending.Differs = tt
ending_by request ending.Refused = tt

module _ (request : Request) (facts : Facts) (x : Answer) where
  -- the statuses of a comparison are those that an answer can have
  with_status : (s : Status) → IsEnding (Some (comparison request)) s → x.status ≡ s → IsEnding (Some (comparison request)) x.status
  with_status s h e = subst (λ (t : Status). IsEnding (Some (comparison request)) t) (sym e) h

  of_both : (show : Option (List ℕ)) (a b : ZonedCalendar) → IsOfBoth show request facts a b x → IsEnding (Some (comparison request)) x.status
  of_both None a b h = with_status _ (ending_by request _) h.tells.status
  of_both (Some name) a b h =
      subst (λ (y : Answer). IsEnding (Some (comparison request)) y.status) (sym h.is) (ending_by request h.shown.status)

  compared_with : (a : ZonedCalendar) (b : Result ZonedCalendar FileRefusal) → IsComparedWith request facts a b x
      → IsEnding (Some (comparison request)) x.status
  compared_with a (Ok b) h = of_both request.show a b h
  compared_with a (Err refusal) h = with_status Refused tt h.status

  compared_by : (a b : Result ZonedCalendar FileRefusal) → IsCompared request facts a b x → IsEnding (Some (comparison request)) x.status
  compared_by (Ok a) b h = compared_with a b h
  compared_by (Err refusal) b h = with_status Refused tt h.status

pub answer_ending : (asked : Option Asked) (texts : Texts) (x : Answer) → IsAnswer asked texts x → IsEnding asked x.status
answer_ending None texts x h = subst (λ (s : Status). IsEnding None s) (sym h) tt
answer_ending (Some help) texts x h = subst (λ (s : Status). IsEnding (Some help) s) (sym h) tt
answer_ending (Some version) texts x h = subst (λ (s : Status). IsEnding (Some version) s) (sym h) tt
answer_ending (Some (comparison request)) texts x h = compared_by request (facts_on request texts) x (old_calendar request texts) (new_calendar request texts) h
