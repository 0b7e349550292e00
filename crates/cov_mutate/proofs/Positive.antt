-- The lines of mutants are from 1 on.
use Rattle.std.proofs.Common.{◌≡◌, ℕ, nat_eq, ◌<◌, Bool, true, false, ◌||◌, List, [], ◌∷◌, Contains, refl, sym, subst}
use Rattle.std.specs.Prelude.{All, nat_lt, if◌then◌else◌}
use Rattle.std.specs.List.{AllByRecursion}
use Rattle.std.proofs.lemmas.Bool.{eqb-true, false≢true}
use Rattle.std.proofs.lemmas.List.Elements.{recursion_from_All, All-contains}
use Rattle.py_syntax.specs.Marks.{with_line, in_order, body_marks, statement_lines}
use Rattle.py_syntax.specs.Tree.{Stmts}
use Rattle.py_scope.specs.Faults.{IsWellFormed}
use Rattle.py_changes.specs.Changed.{changed_module}
use Rattle.py_changes.specs.Changes.{is_one_of}
use Rattle.py_changes.specs.Mutants.{Marked, module_mutants}
use Rattle.py_changes.specs.Regular.{HasTest, AllExecuted}
use Rattle.py_changes.proofs.ChangedMarks.{module-on}
use Rattle.py_mutants_laws.proofs.TheirLine.{mutants_change_their_line}

-- a line from 1 on
abbrev IsPositive : ℕ → Type 0
IsPositive l = 0 < l

-- lines from 1 on
abbrev ArePositive : List ℕ → Type 0
ArePositive ls = AllByRecursion IsPositive ls

from-with : (l : ℕ) (ls : List ℕ) → ArePositive (with_line l ls) → IsPositive l × ArePositive ls
from-with l [] h = (h.0, tt)
from-with l (k ∷ ks) h = go (nat_lt l k) (nat_eq l k) refl h (from-with l ks)
  where
    go : (a b : Bool) → nat_eq l k ≡ b → ArePositive (if a then l ∷ k ∷ ks else (if b then k ∷ ks else k ∷ with_line l ks)) → (ArePositive (with_line l ks) → IsPositive l × ArePositive ks) → IsPositive l × ArePositive (k ∷ ks)
    go true b e q later = (q.0, q.1)
    go false true e q later = (subst IsPositive (sym (eqb-true l k e)) q.0, q)
    go false false e q later = let rest = later q.1 in (rest.0, (q.0, rest.1))

from-in-order : (ls : List ℕ) → ArePositive (in_order ls) → ArePositive ls
from-in-order [] h = tt
from-in-order (l ∷ ls) h = let first = from-with l (in_order ls) h in (first.0, from-in-order ls first.1)

one-here : (l k : ℕ) (ks : List ℕ) (b : Bool) → nat_eq l k ≡ b → (b || is_one_of l ks) ≡ true → 0 < k → (is_one_of l ks ≡ true → 0 < l) → 0 < l
one-here l k ks true s t h rest = subst IsPositive (sym (eqb-true l k s)) h
one-here l k ks false s t h rest = rest t

one-of : (l : ℕ) (ls : List ℕ) → ArePositive ls → is_one_of l ls ≡ true → 0 < l
one-of l [] h e = absurd (false≢true e)
one-of l (k ∷ ks) h e = one-here l k ks (nat_eq l k) refl e h.0 (one-of l ks h.1)

pub positive-line : (a : Stmts) → AllExecuted (λ l k. HasTest k) a → IsWellFormed a → All (λ l. 0 < l) (statement_lines a) → (x : Marked × Stmts) → Contains (module_mutants a) x → 0 < x.0.0
positive-line a tests well lines x at =
    one-of x.0.0 (changed_module a x.1).0 (module-on IsPositive a x.1 (from-in-order (body_marks a) (recursion_from_All IsPositive (statement_lines a) lines)))
    (All-contains (λ y. is_one_of y.0.0 (changed_module a y.1).0 ≡ true) (module_mutants a) x (mutants_change_their_line a tests well) at)
