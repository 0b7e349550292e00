-- Data that are added file by file.
use Rattle.std.proofs.Common.{◌≡◌, List, [], ◌∷◌, map, Some, refl, ap, ◌∙◌, String, string_bytes}
use Rattle.std.specs.declared.alloc.Global.{Global}
use Rattle.std.specs.Option.{unwrap_or}
use Rattle.std.specs.List.{fold, AllByRecursion}
use Rattle.std.specs.FinMap.{get, entries, keys}
use Rattle.std.proofs.lemmas.List.Elements.{recursion_from_All}
use Rattle.cov_data.specs.DataSet.{Text, File, DataSet, no_rows, file_of, add_file, all_files, with_file, union}
use Rattle.cov_data.proofs.FileViews.{text_cmp_total}
use Rattle.cov_data.proofs.RowLists.{get-each}

-- one file more, by its path
abbrev pub file_more : DataSet → DataSet → Text → DataSet
file_more other d path = with_file d path (file_of other path)

-- the files of some paths
abbrev pub files_more : DataSet → DataSet → List (String Global) → DataSet
files_more other d paths = fold (λ d path. file_more other d (string_bytes path)) d paths

by-paths : (other d : DataSet) (paths : List (String Global)) → files_more other d paths ≡ fold (file_more other) d (map string_bytes paths)
by-paths other d [] = refl
by-paths other d (path ∷ paths) = by-paths other (file_more other d (string_bytes path)) paths

by-entries : (other d : DataSet) (es : List (Text × File)) → AllByRecursion (λ e. get other.files e.0 ≡ Some e.1) es
    → fold (file_more other) d (map (λ e. e.0) es) ≡ record d { files = fold (λ m e. add_file m e.0 e.1) d.files es }
by-entries other d [] h = refl
by-entries other d (e ∷ es) h =
    ap (λ f. fold (file_more other) (with_file d e.0 f) (map (λ e. e.0) es)) (ap (λ o. unwrap_or o no_rows) h.0)
    ∙ by-entries other (with_file d e.0 e.1) es h.1

-- those of all paths
pub all-more : (other d : DataSet) (paths : List (String Global)) → map string_bytes paths ≡ keys other.files → files_more other d paths ≡ union d other
unfolding all_files
all-more other d paths e =
    by-paths other d paths
    ∙ ap (fold (file_more other) d) e
    ∙ by-entries other d (entries other.files) (recursion_from_All (λ e. get other.files e.0 ≡ Some e.1) (entries other.files) (get-each text_cmp_total other.files))
