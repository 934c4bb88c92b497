-- Which numbers come from a moment on, on examples.
use Rattle.std.proofs.Common.{◌≡◌, pos, neg_ℤ, refl}
use Rattle.rr_model.specs.declared.kind.Kind.TheVariants.{Days, Moments}
use Rattle.rr_next.specs.Window.{number_from}

-- 2024-01-15 among dates, and at the moments of its day
day_of_date : number_from Days Days (pos 19_737) ≡ pos 19_737
day_of_date = refl

-- midnight comes after its date, so the next date is the 16th
day_of_midnight : number_from Days Moments (pos 1_705_276_800) ≡ pos 19_738
day_of_midnight = refl

day_of_last_second : number_from Days Moments (pos 1_705_363_199) ≡ pos 19_738
day_of_last_second = refl

-- one second before 1970
day_of_negative : number_from Days Moments (neg_ℤ (pos 1)) ≡ pos 0
day_of_negative = refl

moment_of_date : number_from Moments Days (pos 19_737) ≡ pos 1_705_276_800
moment_of_date = refl

moment_of_moment : number_from Moments Moments (pos 1_705_276_801) ≡ pos 1_705_276_801
moment_of_moment = refl
