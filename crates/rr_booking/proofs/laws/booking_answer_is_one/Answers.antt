use Rattle.rr_booking.proofs.OneLemmas.{booking_is_one}
use Rattle.rr_booking.proofs.laws.booking_answer_is_one.Goals as goal

pub returns : goal.returns
returns c = booking_is_one c.answer_is_one.ensures c.first_refusal_is_one.ensures
