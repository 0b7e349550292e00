-- Mutants of small modules, and the lines that they change.
--     sum_lines                 of a sum
--     inner_lines, inner_faults why a `def` may not stand in a function
use Rattle.std.proofs.Common.{◌≡◌, ℕ, pos, true, false, List, [], ◌∷◌, map, Some, refl}
use Rattle.py_operator.specs.declared.operator.BinOp.TheVariants.{Add}
use Rattle.py_syntax.specs.Functions.{functions}
use Rattle.py_syntax.specs.Tree.{name, int, binary, no_exprs, exprs, Stmts, no_stmts, stmt, suite, StmtKind, assign, return, def}
use Rattle.py_scope.specs.Faults.{faults_of}
use Rattle.py_scope.specs.declared.error.ScopeError.TheVariants.{NestedFunction}
use Rattle.py_changes.specs.Changed.{changed_module}
use Rattle.py_changes.specs.Mutants.{module_mutants}

-- a statement on a line of its own
abbrev on_line : ℕ → StmtKind → Stmts → Stmts
on_line l k rest = stmt l l k (record { semicolon = false; newline = true }) rest

-- the lines that mutants stand at, each with the lines that it changes
abbrev lines_of : Stmts → List (ℕ × List ℕ)
lines_of a = map (λ x. (x.0.0, (changed_module a x.1).0)) (module_mutants a)

-- `x = 1 + 2` in line 1, and `y = x` in line 2
abbrev sum : Stmts
sum =
    on_line 1 (assign (exprs (name (120 ∷ [])) no_exprs) (binary Add (int (pos 1)) (int (pos 2))))
    (on_line 2 (assign (exprs (name (121 ∷ [])) no_exprs) (name (120 ∷ []))) no_stmts)

sum_lines : lines_of sum ≡ (1, 1 ∷ []) ∷ (1, 1 ∷ []) ∷ (1, 1 ∷ []) ∷ []
unfolding functions
sum_lines = refl

-- `def f():` in line 1, in it `def g():` in line 2, and in that `return 1` in line 3
abbrev inner : Stmts
inner =
    stmt 1 3
    (def (102 ∷ []) [] no_exprs false
    (suite 1 1 false
    (stmt 2 3
    (def (103 ∷ []) [] no_exprs false
    (suite 2 2 false (on_line 3 (return (Some (int (pos 1)))) no_stmts)))
    (record { semicolon = false; newline = false }) no_stmts)))
    (record { semicolon = false; newline = false }) no_stmts

inner_lines : lines_of inner ≡ (3, []) ∷ []
unfolding functions
inner_lines = refl

inner_faults : faults_of inner ≡ NestedFunction 2 ∷ []
inner_faults = refl
