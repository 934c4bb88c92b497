use Rattle.rr_pattern.proofs.DayLemmas.{is_weekday}
use Rattle.rr_pattern.proofs.days.is_indexed_day.Goals as goal

pub is_day_in-requires : goal.is_day_in-requires
is_day_in-requires c = let day = c.args.day.now in is_weekday day.number _ day.of_weekday
