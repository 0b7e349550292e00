-- What is gathered from the occurrences of names.
use Rattle.std.specs.Prelude.{List, [], ◌∷◌, ◌++◌}
use Rattle.py_syntax.specs.Tree.{Text}
use Rattle.py_syntax.specs.Names.{is_among, add_name, add_names}
use Rattle.py_scope.specs.declared.error.ScopeError.{ScopeError}
use Rattle.py_scope.specs.declared.error.ScopeError.TheVariants.{GlobalAfterUse}
use Rattle.py_scope.specs.declared.occurrence.Occurrence.{Occurrence}
use Rattle.py_scope.specs.declared.occurrence.Occurrence.TheVariants.{Uses, Assigns, Declares}
use Rattle.py_scope.specs.Faults.{fault_if}

-- the names that were used, those that were assigned and those that were declared `global`, and the
-- faults of the declarations
pub record Seen : Type 0 where
  pub used : List Text
  pub assigned : List Text
  pub declared : List Text
  pub late : List ScopeError

-- with one occurrence more
abbrev pub after_one : Seen → Occurrence → Seen
after_one s (Uses x) = record s { used = add_name s.used x }
after_one s (Assigns x) = record s { used = add_name s.used x; assigned = add_name s.assigned x }
after_one s (Declares x line) = record s {
  declared = add_name s.declared x;
  late = s.late ++ fault_if (is_among s.used x) (GlobalAfterUse line);
}

-- with these occurrences more, in their order
abbrev pub after : Seen → List Occurrence → Seen
after s [] = s
after s (o ∷ os) = after (after_one s o) os

-- where a function with these parameters begins
abbrev pub starting : List Text → Seen
starting params = record {
  used = add_names [] params;
  assigned = add_names [] params;
  declared = [];
  late = [];
}
