-- Data as definitions see them: a flag, and for each path the counts of its rows.
--     most_number, most_count           the greatest number and count of a row
--     Text, text_cmp                    texts as bytes, in byte order
--     Place, place_cmp                  where a row stands in its file: by context, from, to
--     File, Files, DataSet              a file's counts by place; files by path; a flag with files
--     add_counts                        counts are added, and stop at the greatest
--     has_path, file_of, count_at       a path, a path's counts, the count of a row
--     with_path, with_file, union       data with a path more; with a file's rows; two data as one
--     AddsCounts                        each row's count is the sum of those in two data
--     IsInRange, IsSound                what a row's numbers and count may be; that all rows are so
use Rattle.std.specs.Prelude.{◌≡◌, ◌≢◌, ℕ, ℤ, pos, neg_ℤ, ◌+◌, ◌<◌, ◌≤◌, ◌<ℤ◌, ◌≤ℤ◌, min, Bool, false, List, map, Option, Some, None, refl}
use Rattle.std.specs.declared.cmp.Ordering.{Ordering}
use Rattle.std.specs.Option.{unwrap_or}
use Rattle.std.specs.List.{fold}
use Rattle.std.specs.Ordering.{nat_cmp, int_cmp, ordering_then}
use Rattle.std.specs.Cmp.Lexicographic.{slice_cmp}
use Rattle.std.specs.FinMap.{FinMap, empty, get, insert, entries, contains_key, code}
use Rattle.std.specs.Coded.{Coded, code_by, coded×, coded_list, coded_ℕ, coded_ℤ, coded_bool}

-- the greatest number of a row: the last line that a text may have
abbrev pub most_number : ℕ
most_number = 65535

-- the greatest count of a row: the greatest number of 32 bits
abbrev pub most_count : ℕ
most_count = 4294967295

-- the bytes of a text
abbrev pub Text : Type 0
Text = List ℕ

-- byte order
abbrev pub text_cmp : Text → Text → Ordering
text_cmp = slice_cmp nat_cmp

-- a context, with the two numbers of a row
abbrev pub Place : Type 0
Place = Text × (ℤ × ℤ)

-- entries with f at each key
abbrev pub rekeyed : {K B X : Type 0} → (K → B) → List (K × X) → List (B × X)
rekeyed f es = map (λ e. (f e.0, e.1)) es

-- by context, then from, then to
abbrev pub place_cmp : Place → Place → Ordering
place_cmp a b =
    ordering_then (text_cmp a.0 b.0)
    (ordering_then (int_cmp a.1.0 b.1.0) (int_cmp a.1.1 b.1.1))

-- places, coded by their texts and numbers
abbrev pub place_code : Coded Place
place_code = coded× (coded_list coded_ℕ) (coded× coded_ℤ coded_ℤ)

-- the counts of the rows of one path
abbrev pub File : Type 0
File = FinMap place_cmp ℕ

-- files, coded by their entries
abbrev pub file_code : Coded File
file_code = code place_code coded_ℕ

-- the files by their paths
abbrev pub Files : Type 0
Files = FinMap text_cmp File

-- files by path, coded likewise
abbrev pub files_code : Coded Files
files_code = code (coded_list coded_ℕ) file_code

-- Data: whether they are of arcs or of lines, and the files. A path may have no row.
pub record DataSet : Type 0 where
  pub arcs : Bool
  pub files : Files

-- data, coded by their flag and files
abbrev pub data_code : Coded DataSet
data_code =
    code_by (Bool × Files) (coded× coded_bool files_code) (λ d. (d.arcs, d.files))
    (λ p. record { arcs = p.0; files = p.1 }) (λ _. refl)

-- counts are added, and stop at the greatest
abbrev pub add_counts : ℕ → ℕ → ℕ
add_counts a b = min (a + b) most_count

-- a count added to the one that is there, if any
abbrev pub joined_count : Option ℕ → ℕ → ℕ
joined_count None n = n
joined_count (Some m) n = add_counts m n

-- a file without rows
abbrev pub no_rows : File
no_rows = empty

-- a count more at a place, added to the one that is there
abbrev pub add_count : File → Place → ℕ → File
add_count f k n = insert f k (joined_count (get f k) n)

-- the rows of both, where the counts of one row are added
unfoldable pub merged : File → File → File
merged f g = fold (λ h e. add_count h e.0 e.1) f (entries g)

-- no path
abbrev pub no_files : Files
no_files = empty

-- the counts of a path: none where it is absent
abbrev pub file_in : Files → Text → File
file_in m p = unwrap_or (get m p) no_rows

-- a path more, with the rows that it has
abbrev pub add_path : Files → Text → Files
add_path m p = insert m p (file_in m p)

-- a row's count more
abbrev pub add_row : Files → Text → Place → ℕ → Files
add_row m p k n = insert m p (add_count (file_in m p) k n)

-- a path more, with the rows of a file
abbrev pub add_file : Files → Text → File → Files
add_file m p f = insert m p (merged (file_in m p) f)

-- the paths of both, with the rows of both
unfoldable pub all_files : Files → Files → Files
all_files a b = fold (λ m e. add_file m e.0 e.1) a (entries b)

-- whether a path is among them
abbrev pub has_path : DataSet → Text → Bool
has_path d p = contains_key d.files p

-- the counts of a path: none where it is absent
abbrev pub file_of : DataSet → Text → File
file_of d p = file_in d.files p

-- the count of the row of a path with this context, from and to: 0 where there is none
abbrev pub count_at : DataSet → Text → Text → ℤ → ℤ → ℕ
count_at d p context from to = unwrap_or (get (file_of d p) (context, (from, to))) 0

-- data of arcs or of lines without a path
abbrev pub no_data : Bool → DataSet
no_data arcs = record { arcs = arcs; files = no_files }

-- data with a path more, which may have no row
abbrev pub with_path : DataSet → Text → DataSet
with_path d p = record d { files = add_path d.files p }

-- data with a path more, and the rows of a file
abbrev pub with_file : DataSet → Text → File → DataSet
with_file d p f = record d { files = add_file d.files p f }

-- the paths and rows of both, where the counts of one row are added
abbrev pub union : DataSet → DataSet → DataSet
union a b = record a { files = all_files a.files b.files }

-- each row's count in `new` is that in `old` and that in `other`, added
abbrev pub AddsCounts : DataSet → DataSet → DataSet → Type 0
AddsCounts old other new = (path context : Text) (from to : ℤ)
    → count_at new path context from to
    ≡ add_counts (count_at old path context from to) (count_at other path context from to)

-- a number of a row: not 0, and within the greatest either way
abbrev pub IsNumber : ℤ → Type 0
IsNumber z = (z ≢ pos 0) × (neg_ℤ (pos most_number) ≤ℤ z) × (z ≤ℤ pos most_number)

-- what a row's numbers and count may be: for line data both numbers are one line
pub record IsInRange (arcs : Bool) (from to : ℤ) (count : ℕ) : Type 0 where
  pub from_number : IsNumber from
  pub to_number : IsNumber to
  pub one_line : arcs ≡ false → (from ≡ to) × (pos 0 <ℤ from)
  pub counted : 0 < count

-- a file's rows are in range, and no count is beyond the greatest
abbrev pub IsSoundFile : Bool → File → Type 0
IsSoundFile arcs f = (k : Place) (n : ℕ) → get f k ≡ Some n
    → IsInRange arcs k.1.0 k.1.1 n × (n ≤ most_count)

-- the rows of all files are in range
abbrev pub IsSound : DataSet → Type 0
IsSound d = (p : Text) → IsSoundFile d.arcs (file_of d p)
