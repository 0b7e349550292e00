-- Where the statement lines of a module are from 1 on, so are its changed lines.
use Rattle.std.proofs.Common.{◌≡◌, ℕ, nat_eq, ◌<◌, Bool, true, false, List, [], ◌∷◌, sym, refl, subst, arith}
use Rattle.std.specs.Prelude.{All, nat_lt, if◌then◌else◌}
use Rattle.std.specs.List.{AllByRecursion}
use Rattle.std.proofs.lemmas.Bool.{eqb-true}
use Rattle.std.proofs.lemmas.List.Elements.{recursion_from_All}
use Rattle.py_syntax.specs.Marks.{with_line, in_order, body_marks, statement_lines}
use Rattle.py_meaning.specs.Modules.{LoadedModule, body_of}
use Rattle.py_changes.specs.Changed.{changed_module}
use Rattle.py_changes.specs.Changes.{are_compared, changed_lines, is_one_of}
use Rattle.py_changes.specs.Tests.{is_changed}
use Rattle.py_changes.proofs.ChangedMarks.{module-on}
use Rattle.py_changes.proofs.Lists.{both-false}

-- a line from 1 on
abbrev IsPositive : ℕ → Type 0
IsPositive l = 0 < l

-- lines from 1 on
abbrev ArePositive : List ℕ → Type 0
ArePositive ls = AllByRecursion IsPositive ls

-- lines that stand in order
from-with : (l : ℕ) (ls : List ℕ) → ArePositive (with_line l ls) → IsPositive l × ArePositive ls
from-with l [] h = (h.0, tt)
from-with l (k ∷ ks) h = go (nat_lt l k) (nat_eq l k) refl h (from-with l ks)
  where
    go : (a b : Bool) → nat_eq l k ≡ b
        → ArePositive (if a then l ∷ k ∷ ks else (if b then k ∷ ks else k ∷ with_line l ks))
        → (ArePositive (with_line l ks) → IsPositive l × ArePositive ks)
        → IsPositive l × ArePositive (k ∷ ks)
    go true b e q later = (q.0, q.1)
    go false true e q later = (subst IsPositive (sym (eqb-true l k e)) q.0, q)
    go false false e q later = let rest = later q.1 in (rest.0, (q.0, rest.1))

from-in-order : (ls : List ℕ) → ArePositive (in_order ls) → ArePositive ls
from-in-order [] h = tt
from-in-order (l ∷ ls) h =
    let first = from-with l (in_order ls) h in (first.0, from-in-order ls first.1)

differs : (l : ℕ) (b : Bool) → nat_eq 0 l ≡ b → 0 < l → b ≡ false
differs l true e h = absurd (omega (arith, h, eqb-true 0 l e))
differs l false e h = refl

-- 0 isn't among them
not-zero : (ls : List ℕ) → ArePositive ls → is_one_of 0 ls ≡ false
not-zero [] h = refl
not-zero (l ∷ ls) h =
    both-false (nat_eq 0 l) (is_one_of 0 ls) (differs l (nat_eq 0 l) refl h.0) (not-zero ls h.1)

pub zero-unchanged : (old new : List LoadedModule) (m : ℕ)
    → All (λ l. 0 < l) (statement_lines (body_of old m)) → is_changed old new m 0 ≡ false
zero-unchanged old new m h = not-zero (changed_lines old new m) (go (are_compared old new))
  where
    marks : ArePositive (body_marks (body_of old m))
    marks =
        from-in-order (body_marks (body_of old m))
        (recursion_from_All IsPositive (statement_lines (body_of old m)) h)

    go : (x : Bool) → ArePositive
        (if x then (changed_module (body_of old m) (body_of new m)).0 else body_marks
        (body_of old m))
    go true = module-on IsPositive (body_of old m) (body_of new m) marks
    go false = marks
