-- Names that a `global`, `import` or `from` lists (Python Language Reference, 7.11 and 7.12).
use Rattle.std.specs.Prelude.{Bool, true, false, List, [], ◌∷◌, ◌++◌, Option}
use Rattle.py_syntax.specs.Tree.{Text, Alias, StmtKind, global, import, from}

-- what names are listed for
pub data Listed : Type 0 where
  globals : (xs : List Text) → Listed
  imports : (names : List Alias) → Listed
  froms : (m : Text) (names : List Alias) → Listed

-- the statement with these names
abbrev pub listed : Listed → StmtKind
listed (globals xs) = global xs
listed (imports names) = import names
listed (froms m names) = from m names

-- a name with what it is bound to
abbrev pub alias : Text → Option Text → Alias
alias x y = record { name = x; bound = y }

-- a name more
abbrev pub with_name : Listed → Text → Option Text → Listed
with_name (globals xs) x y = globals (xs ++ x ∷ [])
with_name (imports names) x y = imports (names ++ alias x y ∷ [])
with_name (froms m names) x y = froms m (names ++ alias x y ∷ [])

-- whether `as` may follow a name
abbrev pub may_bind : Listed → Bool
may_bind (globals xs) = false
may_bind (imports names) = true
may_bind (froms m names) = true

-- whether a list has some name
abbrev pub is_some : List Text → Bool
is_some [] = false
is_some (x ∷ xs) = true
