-- What the trees that hold the data stand for.
--     place_view                        what a place of the code stands for
--     Counts, counts_from               the counts of one path's rows in one context, and those of
--                                       the entries of a tree
--     no_counts, add_at, both_counts    no count; a count more; the counts of both
--     number_lines                      the lines among two numbers
--     under, listed                     entries under a context, and under each
--     file_with, file_from              the file of counts by context, and that of a tree's entries
--     add_under                         counts more under a context
--     files_from                        the files of the entries of a tree
use Rattle.std.specs.Prelude.{ℕ, ℤ, List, ◌++◌, map, String, string_bytes}
use Rattle.std.specs.List.{fold, flat_map}
use Rattle.std.specs.FinMap.{FinMap, empty, get, insert, entries, from_entries, code}
use Rattle.std.specs.Coded.{Coded, coded×, coded_ℕ, coded_ℤ}
use Rattle.cov_data.specs.declared.file.Place.{Place as Stored}
use Rattle.cov_data.specs.DataSet.{Text, text_cmp, Place, File, Files, rekeyed, joined_count, add_count}
use Rattle.cov_data.specs.Rows.{arc_cmp, lines_in}

-- what a place of the code stands for
abbrev pub place_view : Stored → Place
place_view k = (string_bytes k.context, k.numbers)

-- the counts of the rows of one path in one context, by their two numbers
abbrev pub Counts : Type 0
Counts = FinMap arc_cmp ℕ

-- counts, coded by their entries
abbrev pub counts_code : Coded Counts
counts_code = code (coded× coded_ℤ coded_ℤ) coded_ℕ

-- the counts of the entries of a tree
abbrev pub counts_from : List ((ℤ × ℤ) × ℕ) → Counts
counts_from es = from_entries (rekeyed (λ k. k) es)

-- no count
abbrev pub no_counts : Counts
no_counts = empty

-- a count more at two numbers, added to the one that is there
abbrev pub add_at : Counts → ℤ × ℤ → ℕ → Counts
add_at m k n = insert m k (joined_count (get m k) n)

-- the counts of both, where those of the same two numbers are added
unfoldable pub both_counts : Counts → Counts → Counts
both_counts m n = fold (λ h e. add_at h e.0 e.1) m (entries n)

-- the lines among two numbers
abbrev pub number_lines : ℤ × ℤ → List ℕ
number_lines a = lines_in a.0 ++ lines_in a.1

-- entries under a context
abbrev pub under : Text → List ((ℤ × ℤ) × ℕ) → List (Place × ℕ)
under c es = map (λ e. ((c, e.0), e.1)) es

-- all entries, each under its context
abbrev pub listed : List (Text × Counts) → List (Place × ℕ)
listed es = flat_map (λ e. under e.0 (entries e.1)) es

-- the file of counts by context
unfoldable pub file_with : FinMap text_cmp Counts → File
file_with m = from_entries (listed (entries m))

-- the file of the entries of a tree
abbrev pub file_from : {Y : Type 0} → List (String Y × Counts) → File
file_from es = file_with (from_entries (rekeyed string_bytes es))

-- counts more under a context, each added to the one that is there
unfoldable pub add_under : File → Text → Counts → File
add_under f c m = fold (λ h e. add_count h e.0 e.1) f (under c (entries m))

-- the files of the entries of a tree
abbrev pub files_from : {Y : Type 0} → List (String Y × File) → Files
files_from es = from_entries (rekeyed string_bytes es)
