-- What mutants of a module change: the line of the mark that they stand at, and no other.
use Rattle.std.specs.Prelude.{◌≡◌, ℕ, true, List, All}
use Rattle.py_syntax.specs.Tree.{Stmts}
use Rattle.py_scope.specs.Faults.{IsWellFormed}
use Rattle.py_changes.specs.Changed.{changed_module}
use Rattle.py_changes.specs.Changes.{is_one_of}
use Rattle.py_changes.specs.Mutants.{module_mutants}
use Rattle.py_changes.specs.Regular.{HasTest, AllExecuted}

-- all lines of a list are this one
abbrev pub AreAll : ℕ → List ℕ → Type 0
AreAll l ks = All (λ k. k ≡ l) ks

-- of two versions of a module, no line changes but this one, in the old version and in the new one
abbrev pub ChangesOnly : ℕ → Stmts → Stmts → Type 0
ChangesOnly l a b = AreAll l (changed_module a b).0 × AreAll l (changed_module a b).1

-- Each mutant of a module whose `if`s have tests changes no line but the one that it stands at.
abbrev pub MutantsChangeALine : Type 0
MutantsChangeALine =
    (a : Stmts) → AllExecuted (λ l k. HasTest k) a
    → All (λ x. ChangesOnly x.0.0 a x.1) (module_mutants a)

-- Each mutant of a well-formed module whose `if`s have tests changes the line that it stands at.
abbrev pub MutantsChangeTheirLine : Type 0
MutantsChangeTheirLine =
    (a : Stmts) → AllExecuted (λ l k. HasTest k) a → IsWellFormed a
    → All (λ x. is_one_of x.0.0 (changed_module a x.1).0 ≡ true) (module_mutants a)
