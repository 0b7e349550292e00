-- Data united one after the other.
use Rattle.std.proofs.Common.{◌≡◌, ℕ, ◌<◌, Bool, true, false, not, List, [], ◌∷◌, map, length, get_or, Some, refl, ap, ◌∙◌, arith}
use Rattle.std.specs.Bool.{beq}
use Rattle.std.specs.Option.{unwrap_or}
use Rattle.std.specs.List.{fold, list_any, AllByRecursion}
use Rattle.std.specs.FinMap.{get, entries}
use Rattle.std.proofs.lemmas.List.Elements.{recursion_from_All}
use Rattle.std.proofs.lemmas.List.Folds.{list_any_at}
use Rattle.cov_data.specs.DataSet.{Text, File, DataSet, no_rows, with_file, file_of}
use Rattle.cov_data.specs.Rows.{paths_of}
use Rattle.cov_data.proofs.FileViews.{text_cmp_total}
use Rattle.cov_data.proofs.RowLists.{get-each}
use Rattle.cov_combine.specs.Combined.{with_renamed, flag_of}

renamed_along : (alias : Text → Text) (d : DataSet) (es : List (Text × File)) (all : DataSet) → AllByRecursion (λ e. get d.files e.0 ≡ Some e.1) es
    → fold (λ m p. with_file m (alias p) (file_of d p)) all (map (λ e. e.0) es) ≡ fold (λ m e. with_file m (alias e.0) e.1) all es
renamed_along alias d [] all h = refl
renamed_along alias d (e ∷ es) all h =
    ap (λ f. fold (λ m p. with_file m (alias p) (file_of d p)) (with_file all (alias e.0) f) (map (λ e. e.0) es)) (ap (λ o. unwrap_or o no_rows) h.0)
    ∙ renamed_along alias d es (with_file all (alias e.0) e.1) h.1

-- path by path
pub with_renamed-paths : (alias : Text → Text) (d all : DataSet) → fold (λ m p. with_file m (alias p) (file_of d p)) all (paths_of d) ≡ with_renamed alias all d
with_renamed-paths alias d all = renamed_along alias d (entries d.files) all (recursion_from_All (λ e. get d.files e.0 ≡ Some e.1) (entries d.files) (get-each text_cmp_total d.files))

arcs_along : (alias : Text → Text) (es : List (Text × File)) (all : DataSet) → (fold (λ m e. with_file m (alias e.0) e.1) all es).arcs ≡ all.arcs
arcs_along alias [] all = refl
arcs_along alias (e ∷ es) all = arcs_along alias es (with_file all (alias e.0) e.1)

pub with_renamed-arcs : (alias : Text → Text) (all d : DataSet) → (with_renamed alias all d).arcs ≡ all.arcs
with_renamed-arcs alias all d = arcs_along alias (entries d.files) all

pub flag_of-first : (ds : List DataSet) (x : DataSet) → 0 < length ds → flag_of ds ≡ (get_or ds 0 x).arcs
flag_of-first [] x h = absurd (omega arith)
flag_of-first (d ∷ ds) x h = refl

same_flags : (a b : Bool) → not (beq a b) ≡ false → a ≡ b
same_flags true true h = refl
same_flags true false h = cc
same_flags false true h = cc
same_flags false false h = refl

pub other_flag : (a b : Bool) → not (beq a b) ≡ true → b ≡ not a
other_flag true true h = cc
other_flag true false h = refl
other_flag false true h = refl
other_flag false false h = cc

-- where no flag differs from the first, each is the first
pub flag_at : (ds : List DataSet) (flag : Bool) (i : ℕ) (x : DataSet) → i < length ds → list_any (λ d. not (beq d.arcs flag)) ds ≡ false → (get_or ds i x).arcs ≡ flag
flag_at ds flag i x h none = same_flags (get_or ds i x).arcs flag
    (elim (not (beq (get_or ds i x).arcs flag)) as (λ b. not (beq (get_or ds i x).arcs flag) ≡ b → b ≡ false) [
      | true ↦ λ differs. cc (none, list_any_at (λ (d : DataSet). not (beq d.arcs flag)) ds i x h differs)
      | false ↦ λ same. refl
    ] refl)
