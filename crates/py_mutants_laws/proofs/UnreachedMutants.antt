-- A mutant whose line nothing reached isn't noticed.
use Rattle.std.proofs.Common.{◌≡◌, ◌≢◌, ℕ, false, List, ap, ◌∙◌}
use Rattle.std.proofs.lemmas.List.Elements.{All-from_recursion}
use Rattle.py_syntax.specs.Tree.{Stmts}
use Rattle.py_builtins.specs.Outcomes.{Outcome, finished}
use Rattle.py_builtins.specs.Outcomes as outcomes
use Rattle.py_meaning.specs.Activations.{Items}
use Rattle.py_meaning.specs.Modules.{LoadedModule, body_of}
use Rattle.py_changes.specs.Mutants.{module_mutants}
use Rattle.py_changes.specs.Regular.{IsRegular}
use Rattle.py_changes.specs.Tests.{Test, imported, tested, reaches, is_changed}
use Rattle.py_changes.proofs.Law.{unchanged_import}
use Rattle.py_changes.proofs.Lists.{all-weaker}
use Rattle.py_changes.proofs.UnreachedChange.{unreached_change}
use Rattle.py_mutants_laws.specs.Unreached.{with_body, is_line, IsUnnoticed, UnreachedMutants}
use Rattle.py_mutants_laws.proofs.Mutants.{rows-mutants}
use Rattle.py_mutants_laws.proofs.Replaced.{reaches-less, line-alone}
use Rattle.py_mutants_laws.proofs.Versions.{Rows}

pub not-cut : (o : Outcome) → o ≡ finished → o ≢ outcomes.cut
not-cut o e f = absurd cc

unnoticed : (ms : List LoadedModule) (t : Test) (m l : ℕ) (b : Stmts) → IsRegular ms
    → (imported ms t).outcome ≡ finished → Rows l (body_of ms m) b → IsUnnoticed ms t m l b
unnoticed ms t m l b regular ended h import =
    let less : (items : Items) → reaches (is_line m l) 0 items ≡ false
    → reaches (is_changed ms (with_body ms m b)) 0 items ≡ false =
    λ items. reaches-less (is_line m l) (is_changed ms (with_body ms m b))
    (line-alone l ms m b regular.tests h) 0 items in (
      ap (λ run. run.outcome)
          (unchanged_import ms (with_body ms m b) t regular (not-cut _ ended)
          (less (imported ms t).items import)) ∙ ended,
      λ test passed.
          (unreached_change ms (with_body ms m b) t regular ended
          (less (imported ms t).items import) (less (tested ms t).items test)).1 passed,
    )

pub unreached_mutants : UnreachedMutants
unreached_mutants ms t m regular ended =
    All-from_recursion (λ x. IsUnnoticed ms t m x.0.0 x.1) (module_mutants (body_of ms m))
    (all-weaker (λ x. Rows x.0.0 (body_of ms m) x.1) (λ x. IsUnnoticed ms t m x.0.0 x.1)
    (λ x h. unnoticed ms t m x.0.0 x.1 regular ended h) (module_mutants (body_of ms m))
    (rows-mutants (body_of ms m)))
