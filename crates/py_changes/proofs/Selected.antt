-- A test that isn't selected reached no changed line.
use Rattle.std.proofs.Common.{◌≡◌, ◌≢◌, true, false, ◌||◌, subst}
use Rattle.py_builtins.specs.Returns.{Returned, cut}
use Rattle.py_changes.specs.Laws.{UnselectedTest}
use Rattle.py_changes.specs.Tests.{imported, tested, reaches, is_changed, was_cut}
use Rattle.py_changes.proofs.Law.{unchanged_test}
use Rattle.py_changes.proofs.Lists.{or-false}

not-cut : (r : Returned) → was_cut r ≡ false → r ≢ cut
not-cut r h e = absurd (no-true (subst (λ x. was_cut x ≡ false) e h))
  where
    no-true : true ≡ false → ⊥
    no-true p = absurd cc

pub unselected_test : UnselectedTest
unselected_test old new t regular ne h =
    let by_import = reaches (is_changed old new) 0 (imported old t).items in
    let by_test = reaches (is_changed old new) 0 (tested old t).items in
    let a = or-false (was_cut (tested old t).returned) (by_import || by_test) h in
    let b = or-false by_import by_test a.1 in
    unchanged_test old new t regular ne b.0 (not-cut (tested old t).returned a.0) b.1
