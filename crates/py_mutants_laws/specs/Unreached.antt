-- What tests do of a mutant whose line they didn't reach.
--     with_body               modules of which one has another body
--     is_line                 one line of one module
--     IsUnnoticed             the import and a test of a mutant end as before
--     UnreachedMutants        what is proved of them
--     IsUnnoticedByPath       the same by the lines that were reached under paths
--     UnreachedMutantsByPath  what is proved of these
use Rattle.std.specs.Prelude.{◌≡◌, ℕ, ◌<◌, zero, suc, nat_eq, Bool, true, false, ◌&&◌, List, [], ◌∷◌, All}
use Rattle.py_syntax.specs.Marks.{statement_lines}
use Rattle.py_syntax.specs.Tree.{Stmts}
use Rattle.py_builtins.specs.Outcomes.{finished}
use Rattle.py_meaning.specs.Modules.{LoadedModule, body_of}
use Rattle.py_changes.specs.Mutants.{module_mutants}
use Rattle.py_changes.specs.Paths.{path_of, HasReached}
use Rattle.py_changes.specs.Regular.{IsRegular}
use Rattle.py_changes.specs.Tests.{Test, imported, tested, reaches, has_passed}

-- the modules with another body in place of that of the module with a number
abbrev pub with_body : List LoadedModule → ℕ → Stmts → List LoadedModule
with_body [] m b = []
with_body (x ∷ ms) zero b = record x { body = b } ∷ ms
with_body (x ∷ ms) (suc m) b = x ∷ with_body ms m b

-- this line of the module with this number, and no other
abbrev pub is_line : ℕ → ℕ → ℕ → ℕ → Bool
is_line m l n k = nat_eq n m && nat_eq k l

-- Where the import didn't reach the line of the module, it finishes with that body too. Then a test
-- that passed without reaching it passes.
abbrev pub IsUnnoticed : List LoadedModule → Test → ℕ → ℕ → Stmts → Type 0
IsUnnoticed ms t m l b =
    reaches (is_line m l) 0 (imported ms t).items ≡ false
    → ((imported (with_body ms m b) t).outcome ≡ finished)
    × (reaches (is_line m l) 0 (tested ms t).items ≡ false
    → has_passed (tested ms t).returned ≡ true
    → has_passed (tested (with_body ms m b) t).returned ≡ true)

-- No mutant of a module is noticed by tests that don't reach its line, where the import finishes.
abbrev pub UnreachedMutants : Type 0
UnreachedMutants =
    (ms : List LoadedModule) (t : Test) (m : ℕ) → IsRegular ms
    → (imported ms t).outcome ≡ finished
    → All (λ x. IsUnnoticed ms t m x.0.0 x.1) (module_mutants (body_of ms m))

-- By the lines of paths, as data have them: where the import had no arc to the line in a module of
-- the path, it finishes with that body too. Then a test that passed without such an arc passes.
abbrev pub IsUnnoticedByPath : List LoadedModule → Test → ℕ → ℕ → Stmts → Type 0
IsUnnoticedByPath ms t m l b =
    (HasReached ms (imported ms t).items (path_of ms m) l → ⊥)
    → ((imported (with_body ms m b) t).outcome ≡ finished)
    × ((HasReached ms (tested ms t).items (path_of ms m) l → ⊥)
    → has_passed (tested ms t).returned ≡ true
    → has_passed (tested (with_body ms m b) t).returned ≡ true)

-- No mutant is noticed by tests that don't reach its line under its path. The statement lines of
-- modules are from 1 on, as in every text.
abbrev pub UnreachedMutantsByPath : Type 0
UnreachedMutantsByPath =
    (ms : List LoadedModule) (t : Test) (m : ℕ) → IsRegular ms
    → ((n : ℕ) → All (λ l. 0 < l) (statement_lines (body_of ms n)))
    → (imported ms t).outcome ≡ finished
    → All (λ x. IsUnnoticedByPath ms t m x.0.0 x.1) (module_mutants (body_of ms m))
