-- Worked cases of the occupied days of a stretch, and of sketches that descriptors describe.
use Rattle.std.proofs.Common.{◌≡◌, [], ◌∷◌, pos, refl}
use Rattle.std.specs.Prelude.{None, Some, codes}
use Rattle.std.specs.Fmt.{digits}
use Rattle.rr_model.specs.Calendar.{first_day_of_year, days_of_months, year_of, days_into_year, months_over, month_of, day_of_month}
use Rattle.rr_model.specs.Sets.Descriptor.{Described, descriptor, runs_of, sets_of}
use Rattle.rr_model.specs.Sets.DescriptorText.{text_of, text_of_lines, fields}
use Rattle.rr_model.specs.Sets.Occupied.{day_shapes}
use Rattle.rr_model.specs.Sets.Reading.{sketch_described}
use Rattle.rr_model.specs.Sets.Stretches.{stretches, stretches_within, items_text, seconds_of, second_descriptor_text}
use Rattle.rr_model.specs.Text.Moments.{extended_date_text}
use Rattle.rr_model.specs.declared.kind.Kind.TheVariants.{Days, Moments}
use Rattle.rr_model.specs.declared.sketch.Sketch.{Sketch}

-- 09:00:00 on the first day, then midnight every second day
abbrev hours : Sketch
hours = record {
  kind = Moments;
  before = record { day = pos 1; times = 32_400 ∷ [] } ∷ [];
  settled = pos 2;
  period = 2;
  cycle = record { day = pos 2; times = 0 ∷ [] } ∷ [];
}

-- the first day and two of its cycle lie among these five days
of_five : day_shapes hours (pos 0) 5 ≡
    record { day = pos 1; times = 32_400 ∷ [] } ∷ record { day = pos 2; times = 0 ∷ [] } ∷ record { day = pos 4; times = 0 ∷ [] } ∷ []
unfolding day_shapes
of_five = refl

-- no day before the first is occupied
of_none : day_shapes hours (pos 0) 1 ≡ []
unfolding day_shapes
of_none = refl

-- what is said of the sketch describes it
read_back : sketch_described (descriptor hours) ≡ hours
unfolding descriptor runs_of sets_of
read_back = refl

-- three dates, every second day: a finite set settles after its last
abbrev three : Described
three = record {
  kind = Days;
  sets = (0 ∷ []) ∷ [];
  first = pos 19_723;
  before = record { gap = 0; set = 0; count = 1 } ∷ record { gap = 2; set = 0; count = 2 } ∷ [];
  ending = None;
}

finite : sketch_described (Some three) ≡ record {
  kind = Days;
  before = record { day = pos 19_723; times = 0 ∷ [] } ∷ record { day = pos 19_725; times = 0 ∷ [] } ∷ record { day = pos 19_727; times = 0 ∷ [] } ∷ [];
  settled = pos 19_728;
  period = 1;
  cycle = [];
}
finite = refl

-- nothing is said of the empty set
none : sketch_described None ≡ record { kind = Days; before = []; settled = pos 0; period = 1; cycle = [] }
none = refl

-- version 2 writes time sets by stretches
second_version : second_descriptor_text hours ≡ codes "rrcanon 2\nmoments\nt 32400\nt 0\nf 1970-01-02\nb 0 0 1\nq 1970-01-03 2\nc 0 1 1\n"
unfolding descriptor runs_of sets_of text_of text_of_lines fields items_text stretches_within extended_date_text digits first_day_of_year days_of_months
    year_of days_into_year months_over month_of day_of_month
second_version = refl

-- and stretches say the seconds that they were made of
of_stretches : seconds_of (stretches (0 ∷ 10 ∷ 11 ∷ 12 ∷ [])) ≡ 0 ∷ 10 ∷ 11 ∷ 12 ∷ []
unfolding stretches_within
of_stretches = refl
