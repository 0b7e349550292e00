-- A mutant changes no line but the one that it stands at.
use Rattle.std.proofs.Common.{◌≡◌, ℕ}
use Rattle.std.proofs.lemmas.List.Elements.{All-from_recursion}
use Rattle.py_syntax.specs.Tree.{Stmts}
use Rattle.py_changes.specs.Changed.{changed_module}
use Rattle.py_changes.specs.Mutants.{module_mutants}
use Rattle.py_changes.specs.Regular.{HasTest, AllExecuted}
use Rattle.py_changes.proofs.Lists.{all-weaker}
use Rattle.py_mutants_laws.specs.Mutants.{ChangesOnly, MutantsChangeALine}
use Rattle.py_mutants_laws.proofs.Versions.{Rows}
use Rattle.py_mutants_laws.proofs.Modules.{module-only}
use Rattle.py_mutants_laws.proofs.Mutants.{rows-mutants}

-- a version changes its line alone
pub version-changes : (l : ℕ) (a b : Stmts) → Rows l a b → AllExecuted (λ m k. HasTest k) a
    → ChangesOnly l a b
version-changes l a b h t =
    let lines = module-only l a b h t in (
      All-from_recursion (λ k. k ≡ l) (changed_module a b).0 lines.0,
      All-from_recursion (λ k. k ≡ l) (changed_module a b).1 lines.1,
    )

pub mutants_change_a_line : MutantsChangeALine
mutants_change_a_line a t =
    All-from_recursion (λ x. ChangesOnly x.0.0 a x.1) (module_mutants a)
    (all-weaker (λ x. Rows x.0.0 a x.1) (λ x. ChangesOnly x.0.0 a x.1)
    (λ x h. version-changes x.0.0 a x.1 h t) (module_mutants a) (rows-mutants a))
