-- Worked descriptors: small sketches byte by byte, and lines of time sets as stretches.
use Rattle.std.proofs.Common.{◌≡◌, [], ◌∷◌, pos, refl}
use Rattle.std.specs.Prelude.{codes}
use Rattle.std.specs.Fmt.{digits}
use Rattle.rr_model.specs.Calendar.{first_day_of_year, days_of_months, year_of, days_into_year, months_over, month_of, day_of_month}
use Rattle.rr_model.specs.Sets.Descriptor.{runs_of, sets_of, descriptor}
use Rattle.rr_model.specs.Sets.DescriptorText.{text_of, text_of_lines, fields, descriptor_text}
use Rattle.rr_model.specs.Sets.Stretches.{stretches_within, items_text, stretches_line}
use Rattle.rr_model.specs.Text.Moments.{extended_date_text}
use Rattle.rr_model.specs.declared.kind.Kind.TheVariants.{Days, Moments}
use Rattle.rr_model.specs.declared.sketch.Sketch.{Sketch}

-- three dates, every second day
three : Sketch
three = record {
  kind = Days;
  before = record { day = pos 19_723; times = 0 ∷ [] } ∷ record { day = pos 19_725; times = 0 ∷ [] } ∷ record { day = pos 19_727; times = 0 ∷ [] } ∷ [];
  settled = pos 19_728;
  period = 1;
  cycle = [];
}

nothing : Sketch
nothing = record { kind = Days; before = []; settled = pos 0; period = 1; cycle = [] }

-- a partial first day, then two days in turn
hours : Sketch
hours = record {
  kind = Moments;
  before = record { day = pos 1; times = 32_400 ∷ [] } ∷ [];
  settled = pos 2;
  period = 2;
  cycle = record { day = pos 2; times = 0 ∷ 32_400 ∷ [] } ∷ record { day = pos 3; times = 32_400 ∷ [] } ∷ [];
}

of_nothing : descriptor_text nothing ≡ codes "rrcanon 1\nnone\n"
unfolding nothing text_of text_of_lines descriptor
of_nothing = refl

of_three : descriptor_text three ≡ codes "rrcanon 1\ndays\nf 2024-01-01\nb 0 0 1\nb 2 0 2\n"
unfolding three text_of text_of_lines fields descriptor runs_of sets_of extended_date_text digits first_day_of_year days_of_months year_of days_into_year
    months_over month_of day_of_month
of_three = refl

of_hours : descriptor_text hours ≡ codes "rrcanon 1\nmoments\nt 32400\nt 0 32400\nf 1970-01-02\nb 0 0 1\nq 1970-01-03 2\nc 0 1 1\nc 1 0 1\n"
unfolding hours text_of text_of_lines fields descriptor runs_of sets_of extended_date_text digits first_day_of_year days_of_months year_of days_into_year
    months_over month_of day_of_month
of_hours = refl

-- ---- stretches

of_pair : stretches_line (32_400 ∷ 61_200 ∷ []) ≡ codes "t 32400 61200"
unfolding stretches_within items_text digits
of_pair = refl

of_second_and_stretch : stretches_line (0 ∷ 10 ∷ 11 ∷ 12 ∷ []) ≡ codes "t 0 10/1/3"
unfolding stretches_within items_text digits
of_second_and_stretch = refl

of_every_seventh_hour : stretches_line (0 ∷ 25_200 ∷ 50_400 ∷ 75_600 ∷ []) ≡ codes "t 0/25200/4"
unfolding stretches_within items_text digits
of_every_seventh_hour = refl
