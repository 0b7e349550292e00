-- A change of lines that nothing reached isn't noticed.
use Rattle.std.proofs.Common.{◌≡◌, ◌≢◌, true, sym, subst, ap, ◌∙◌}
use Rattle.py_builtins.specs.Outcomes.{Outcome, finished}
use Rattle.py_builtins.specs.Outcomes as outcomes
use Rattle.py_builtins.specs.Returns.{Returned, gave, raised, cut}
use Rattle.py_changes.specs.Laws.{UnreachedChange}
use Rattle.py_changes.specs.Tests.{tested, has_passed}
use Rattle.py_changes.proofs.Law.{unchanged_import, unchanged_test}

not-cut : (o : Outcome) → o ≡ finished → o ≢ outcomes.cut
not-cut o e f = absurd cc

passed-not-cut : (r : Returned) → has_passed r ≡ true → r ≢ cut
passed-not-cut (gave v) h e = absurd cc
passed-not-cut (raised kind text) h e = absurd cc
passed-not-cut cut h e = absurd cc

pub unreached_change : UnreachedChange
unreached_change old new t regular ended import test =
    let ne = not-cut _ ended in (
      ap (λ run. run.outcome) (unchanged_import old new t regular ne import) ∙ ended,
      λ passed.
          subst (λ answer. has_passed answer.returned ≡ true)
          (sym (unchanged_test old new t regular ne import
          (passed-not-cut (tested old t).returned passed) test))
          passed,
    )
