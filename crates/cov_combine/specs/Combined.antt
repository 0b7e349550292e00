-- Combined data.
use Rattle.std.specs.Prelude.{◌≡◌, ◌↔◌, Bool, true, false, not, List, [], ◌∷◌, is_some, Contains}
use Rattle.std.specs.Bool.{beq}
use Rattle.std.specs.List.{fold, list_any}
use Rattle.std.specs.FinMap.{entries, get}
use Rattle.cov_combine.specs.declared.combining.CombineError.{CombineError}
use Rattle.cov_combine.specs.declared.combining.CombineError.TheVariants.{Mixed, NoMemory}
use Rattle.cov_data.specs.DataSet.{Text, Place, DataSet, no_data, with_file, file_of, has_path}

-- the paths and rows of d more, each path under its alias
abbrev pub with_renamed : (Text → Text) → DataSet → DataSet → DataSet
with_renamed alias all d = fold (λ m e. with_file m (alias e.0) e.1) all (entries d.files)

-- the flag of the first
abbrev pub flag_of : List DataSet → Bool
flag_of [] = false
flag_of (d ∷ ds) = d.arcs

-- whether some are of arcs and some of lines
abbrev pub has_both_kinds : List DataSet → Bool
has_both_kinds ds = list_any (λ d. not (beq d.arcs (flag_of ds))) ds

-- the union of the inputs, each path under its alias
abbrev pub combined : (Text → Text) → List DataSet → DataSet
combined alias ds = fold (with_renamed alias) (no_data (flag_of ds)) ds

-- what combining is refused for besides memory: the flag of the first input and the other, where
-- both kinds are there
abbrev pub IsMixture : List DataSet → CombineError → Type 0
IsMixture ds NoMemory = Unit {0}
IsMixture ds (Mixed first other) =
    (first ≡ flag_of ds) × (other ≡ not (flag_of ds)) × (has_both_kinds ds ≡ true)

-- the same data are among both, in whatever order and however often
abbrev pub HaveSameMembers : List DataSet → List DataSet → Type 0
HaveSameMembers some others = (d : DataSet) → Contains some d ↔ Contains others d

-- each path of these data is its own alias
abbrev pub HasOwnAliases : (Text → Text) → DataSet → Type 0
HasOwnAliases alias d = (p : Text) → has_path d p ≡ true → alias p ≡ p

-- whether data hold a row, whatever its count
abbrev pub has_row : DataSet → Text → Place → Bool
has_row d p k = is_some (get (file_of d p) k)

-- the same flag, paths and rows, whatever the counts
pub record HoldsAlike (a b : DataSet) : Type 0 where
  pub flag : a.arcs ≡ b.arcs
  pub paths : (p : Text) → has_path a p ≡ has_path b p
  pub rows : (p : Text) (k : Place) → has_row a p k ≡ has_row b p k
