-- A list of numbers that is kept in pages, of which equal ones are kept once.
use Rattle.std.specs.Prelude.{◌≡◌, ℕ, ◌+◌, ◌<◌, ◌≤◌, List, [], ◌∷◌, ◌++◌, length, take, drop, get_or}

-- the numbers of a page, which begins at this index in the pool
abbrev pub page_numbers : List ℕ → ℕ → List ℕ
page_numbers pool page = take 63 (drop page pool)

-- the numbers of pages, one page after another
abbrev pub row_of_pages : List ℕ → List ℕ → List ℕ
row_of_pages pool [] = []
row_of_pages pool (page ∷ pages) = page_numbers pool page ++ row_of_pages pool pages

-- the list that is kept: the numbers of pages, and those after the last page
abbrev pub kept_list : List ℕ → List ℕ → List ℕ → List ℕ
kept_list pool pages rest = row_of_pages pool pages ++ rest

-- the first numbers of a list were put at the end: one at least, and at most as many as may be
abbrev pub PutsSome : List ℕ → List ℕ → ℕ → List ℕ → ℕ → Type 0
PutsSome old new most numbers count = (1 ≤ count) × (count ≤ most) × (new ≡ old ++ take count numbers)

-- each page lies within the pool
abbrev pub ArePages : List ℕ → List ℕ → Type 0
ArePages pool pages = (k : ℕ) → k < length pages → get_or pages k 0 + 63 ≤ length pool

-- the new pool is the old one and more numbers at its end
abbrev pub IsGrown : List ℕ → List ℕ → Type 0
IsGrown old new = (more : List ℕ) × (new ≡ old ++ more)

-- a page of the pool has these numbers
pub record IsPageOf (pool numbers : List ℕ) (page : ℕ) : Type 0 where
  pub within : page + 63 ≤ length pool
  pub same : page_numbers pool page ≡ numbers

-- there is room for this number of numbers after those that follow the last page: for as many as a page has, or, if there is no
-- page yet, 200,025
pub record HasRoom (pages rest : List ℕ) (count : ℕ) : Type 0 where
  pub short : length rest + count ≤ 200_025
  pub late : 0 < length pages → length rest + count ≤ 63

-- pages of the pool, not too many to be counted, and not more numbers after them than may be there
pub record IsPaged (pool pages rest : List ℕ) : Type 0 where
  pub stand : ArePages pool pages
  pub few : length pages ≤ 100_000_000
  pub room : HasRoom pages rest 0

-- the numbers of this row are those of the list from this index on, one at least
pub record IsPiece (numbers : List ℕ) (index : ℕ) (row : List ℕ) : Type 0 where
  pub some : 0 < length row
  pub within : index + length row ≤ length numbers
  pub same : (k : ℕ) → k < length row → get_or row k 0 ≡ get_or numbers (index + k) 0

-- `count` numbers of the list from this index on are 0
pub record IsZeroFrom (numbers : List ℕ) (index count : ℕ) : Type 0 where
  pub within : index + count ≤ length numbers
  pub zeros : (k : ℕ) → k < count → get_or numbers (index + k) 0 ≡ 0

-- a page of the pool has 0 alone
abbrev pub IsZeroPage : List ℕ → ℕ → Type 0
IsZeroPage pool page = (k : ℕ) → k < 63 → get_or pool (page + k) 0 ≡ 0
