-- What is found in parts of a tree in memory, apart from what stands after them.
--     clause_part, case_part                 a clause and a case; the last argument says whether
--                                            another one follows
--     function_part                          a function that begins on a line
--     in_end                                 the names in a bound of a slice
--     in_assignment .. in_definition         the names in a statement without suites, or in front
--                                            of one
use Rattle.std.specs.Prelude.{ℕ, Bool, ◌&&◌, List, ◌∷◌, ◌++◌, Option, Box, is_none, is_some}
use Rattle.std.specs.Global.{Global}
use Rattle.std.specs.Option.{option_map}
use Rattle.py_syntax.specs.declared.expr.Expr.{Expr as Node}
use Rattle.py_syntax.specs.declared.stmt.Case.{Case, out-Case}
use Rattle.py_syntax.specs.declared.stmt.Clause.{Clause, out-Clause}
use Rattle.py_syntax.specs.declared.stmt.Suite.{Suite, out-Suite}
use Rattle.py_syntax.specs.Tree.{Text}
use Rattle.py_syntax.specs.View.{opt_of, plain_expr, plain_exprs, plain_pattern, plain_suite}
use Rattle.py_scope.specs.declared.occurrence.Occurrence.{Occurrence}
use Rattle.py_scope.specs.declared.occurrence.Occurrence.TheVariants.{Assigns}
use Rattle.py_scope.specs.declared.place.Place.{Place}
use Rattle.py_scope.specs.declared.error.ScopeError.TheVariants.{NestedFunction, EarlyIrrefutable, TwiceNamed}
use Rattle.py_scope.specs.Faults.{Findings, ◌&◌, blame, blame_case, function_findings, suite_findings, in_clause}
use Rattle.py_scope.specs.Occurrences.{in_expr, in_exprs, in_optional, in_option, in_target, in_targets}
use Rattle.py_scope.specs.Patterns.{has_repeats}

-- a clause
abbrev pub clause_part : Place → Clause → Bool → Findings
clause_part at c follows =
    blame (is_none (out-Clause c).kind && follows)
    (EarlyIrrefutable (out-Suite (out-Clause c).body).first) & suite_findings (in_clause at)
    (plain_suite (out-Clause c).body)

-- a case
abbrev pub case_part : Place → Case → Bool → Findings
case_part at c follows =
    blame_case (out-Suite (out-Case c).body).first (plain_pattern (out-Case c).pattern)
    (is_some (out-Case c).guard) follows & suite_findings at (plain_suite (out-Case c).body)

-- a function that begins on a line
abbrev pub function_part : Place → ℕ → List Text → Suite → Findings
function_part at line params body =
    blame at.function (NestedFunction line) &
    (blame (has_repeats params) (TwiceNamed line) & function_findings params (plain_suite body))

-- ---- names

-- the names in a bound of a slice, where there is one
abbrev pub in_end : Option (Box Node Global) → List Occurrence
in_end e = in_optional (opt_of (option_map (λ b. plain_expr b.value) e))

-- those of `targets = value`
abbrev pub in_assignment : List Node → Node → List Occurrence
in_assignment targets value = in_targets (plain_exprs targets) ++ in_expr (plain_expr value)

-- those of `place op= value`
abbrev pub in_augmented : Node → Node → List Occurrence
in_augmented place value = in_target (plain_expr place) ++ in_expr (plain_expr value)

-- those of an `assert`
abbrev pub in_assertion : Node → Option Node → List Occurrence
in_assertion test why = in_expr (plain_expr test) ++ in_option (option_map plain_expr why)

-- those of the header of a `def`
abbrev pub in_definition : Text → List Node → List Occurrence
in_definition name defaults = Assigns name ∷ in_exprs (plain_exprs defaults)
