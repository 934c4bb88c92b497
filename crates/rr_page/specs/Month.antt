-- The months of a difference on a page.
use Rattle.std.specs.Prelude.{ℕ, zero, suc, ◌+◌, ◌%◌, ◌==◌, nat_lt, Bool, ◌&&◌, if◌then◌else◌, ℤ, pos, neg_ℤ, int_le, nat_abs, List, [], ◌∷◌, ◌++◌, codes}
use Rattle.std.specs.Fmt.{decimal}
use Rattle.rr_html.specs.Markup.{html_text}
use Rattle.rr_html.specs.Pieces.{piece_text}
use Rattle.rr_html.specs.declared.month.MonthPiece.{MonthPiece}
use Rattle.rr_html.specs.declared.month.MonthPiece.TheVariants as month
use Rattle.rr_html.specs.declared.event.EventPiece.TheVariants as event
use Rattle.rr_html.specs.declared.piece.Piece.TheVariants.{Event, Month}
use Rattle.rr_model.specs.Calendar.{month_of, weekday_of, year_of}
use Rattle.rr_page.specs.Head.{number_html}
use Rattle.rr_trip.specs.declared.detail.Month.{Month as MarkedMonth}
use Rattle.rr_wording.specs.Dates.{month_name}

-- the month of a day, as `April 2024`
unfoldable pub caption_text : ℤ → List ℕ
caption_text first = month_name (month_of first) ++ codes " " ++ decimal (nat_abs (year_of first))

-- ---- days

-- the start of the cell of a day, by its sign
abbrev pub cell_piece : ℕ → MonthPiece
cell_piece sign =
    if sign == 61 then month.CellSame else (if sign == 120 then month.CellOther
    else (if sign == 65 then month.CellA else (if sign == 66 then month.CellB else month.CellNone)))

-- its end
abbrev pub sign_piece : ℕ → MonthPiece
sign_piece sign =
    if sign == 61 then month.SignSame else (if sign == 120 then month.SignOther
    else (if sign == 65 then month.SignA else (if sign == 66 then month.SignB else month.SignNone)))

-- a day that is n days after the first of its month begins a row if it is a Monday, but not if it is the first
abbrev pub begins_row : ℕ → ℕ → Bool
begins_row weekday n = nat_lt 0 n && ((weekday + n) % 7 == 0)

-- the day that is n days after the first of its month, which lies on this weekday, with its sign
abbrev pub cell_html : ℕ → ℕ → ℕ → List ℕ
cell_html weekday n sign =
    (if begins_row weekday n then piece_text (Month month.WeekEnd) else []) ++ piece_text (Month (cell_piece sign)) ++ number_html (n + 1)
    ++ piece_text (Month (sign_piece sign))

-- days in a row with these signs, from the one that is n days after the first
abbrev pub cells_html : ℕ → ℕ → List ℕ → List ℕ
cells_html weekday n [] = []
cells_html weekday n (sign ∷ signs) = cell_html weekday n sign ++ cells_html weekday (n + 1) signs

-- the cells before the first day
abbrev pub out_html : ℕ → List ℕ
out_html zero = []
out_html (suc n) = out_html n ++ piece_text (Month month.OutCell)

-- ---- months

-- a day of which the calendar can tell the month
abbrev pub is_known_day : ℤ → Bool
is_known_day day = int_le (neg_ℤ (pos 3_000_000_000_000)) day && int_le day (pos 3_000_000_000_000)

-- a month with this caption, whose first day lies on this weekday, with the signs of its days
unfoldable pub grid_html : List ℕ → ℕ → List ℕ → List ℕ
grid_html caption weekday signs =
    piece_text (Month month.MonthStart) ++ html_text caption ++ piece_text (Month month.MonthHead) ++ out_html weekday
    ++ cells_html weekday 0 signs ++ piece_text (Month month.MonthEnd)

-- the month that begins on a day, with the signs of its days
abbrev pub known_month_html : ℤ → List ℕ → List ℕ
known_month_html first signs = grid_html (caption_text first) (weekday_of first) signs

-- a month, or nothing if the calendar does not reach so far
unfoldable pub month_html : MarkedMonth → List ℕ
month_html marked = if is_known_day marked.first then known_month_html marked.first marked.signs.items else []

-- months one after another
abbrev pub each_month_html : List MarkedMonth → List ℕ
each_month_html [] = []
each_month_html (marked ∷ months) = month_html marked ++ each_month_html months

-- the months, if there are some
unfoldable pub months_html : List MarkedMonth → List ℕ
months_html [] = []
months_html (marked ∷ months) = piece_text (Month month.MonthsStart) ++ each_month_html (marked ∷ months) ++ piece_text (Month month.MonthsEnd)

-- the usual times and the days with others, if there are some
unfoldable pub times_html : List ℕ → List ℕ
times_html [] = []
times_html (b ∷ bs) = piece_text (Event event.TimesStart) ++ html_text (b ∷ bs) ++ piece_text (Event event.TimesEnd)
