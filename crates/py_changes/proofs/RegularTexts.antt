-- Modules that texts spell are as the laws ask.
use Rattle.std.proofs.Common.{◌≡◌, ℕ, zero, suc, nat_eq, Bool, true, false, ◌||◌, IsTrue, List, [], ◌∷◌, refl, sym, subst}
use Rattle.std.specs.Prelude.{All, if◌then◌else◌}
use Rattle.std.specs.List.{AllByRecursion}
use Rattle.std.proofs.lemmas.Bool.{eq-eqb}
use Rattle.std.proofs.lemmas.List.Elements.{All-head, All-tail}
use Rattle.py_syntax.specs.Functions.{Function, functions, is_docstring, without_docstring}
use Rattle.py_syntax.specs.Gathering.{gather, gather_kind}
use Rattle.py_syntax.specs.Statements.{NormalStmts}
use Rattle.py_syntax.specs.Tree.{Stmts, no_stmts, stmt, StmtKind}
use Rattle.py_meaning.specs.Modules.{LoadedModule, body_of}
use Rattle.py_scope.specs.Faults.{IsWellFormed}
use Rattle.py_changes.specs.Texts.{IsText, RegularTexts}
use Rattle.py_changes.specs.Regular.{all_statements, executed_in, HasTest, StandsIn, begins_one, AllExecuted}
use Rattle.py_changes.proofs.Lists.{all-right, all-joined, all-weaker}
use Rattle.py_changes.proofs.Nested.{well_formed}
use Rattle.py_changes.proofs.TextBodies.{AreBodied, row-bodies}
use Rattle.py_changes.proofs.TextDefs.{AllStand, row-stands}
use Rattle.py_changes.proofs.TextTests.{HaveTests, row-tests}

-- ---- a body without its docstring has no other statements

module _ (P : ℕ × StmtKind → Type 0) where
  -- of all statements of a text
  abbrev AllOf : Stmts → Type 0
  AllOf a = AllByRecursion P (gather all_statements a)

  without-first : (l b : ℕ) (k : StmtKind) (e : _) (r : Stmts) (x : Bool) → AllOf (stmt l b k e r)
      → AllOf (if x then r else stmt l b k e r)
  without-first l b k e r true h =
      all-right P (gather_kind all_statements ((l, k) ∷ []) k) (gather all_statements r) h
  without-first l b k e r false h = h

  bare : (a : Stmts) → AllOf a → AllOf (without_docstring a)
  bare no_stmts h = tt
  bare (stmt l b k e r) h = without-first l b k e r (is_docstring k) h

  bodies : (fs : List Function) → AllByRecursion (λ f. AllOf f.body) fs
      → AllByRecursion P (executed_in fs)
  bodies [] h = tt
  bodies (f ∷ fs) h =
      all-joined P (gather all_statements (without_docstring f.body)) (executed_in fs)
      (bare f.body h.0) (bodies fs h.1)

  all-executed : (a : Stmts) → AllOf a → AllByRecursion (λ f. AllOf f.body) (functions a)
      → AllExecuted (λ l k. P (l, k)) a
  all-executed a h k =
      all-joined P (gather all_statements (without_docstring a)) (executed_in (functions a))
      (bare a h) (bodies (functions a) k)

-- ---- functions begin in their lines

first-line : (b c : Bool) → IsTrue b → IsTrue (b || c)
first-line true c h = refl
first-line false c h = absurd cc

later-line : (b c : Bool) → IsTrue c → IsTrue (b || c)
later-line true c h = refl
later-line false c h = h

own-lines : (fs : List Function) → AllByRecursion (λ f. IsTrue (begins_one f.line fs)) fs
own-lines [] = tt
own-lines (f ∷ fs) = (
  first-line (nat_eq f.line f.line) (begins_one f.line fs) (eq-eqb f.line f.line refl),
  all-weaker (λ g. IsTrue (begins_one g.line fs))
      (λ g. IsTrue (nat_eq f.line g.line || begins_one g.line fs))
      (λ g h. later-line (nat_eq f.line g.line) (begins_one g.line fs) h) fs (own-lines fs),
)

-- ---- normal, well-formed texts

body-tests : (fs : List Function) → AreBodied fs
    → AllByRecursion (λ f. HaveTests (gather all_statements f.body)) fs
body-tests [] h = tt
body-tests (f ∷ fs) h = (row-tests f.body h.0, body-tests fs h.1)

body-stands : (gs fs : List Function) → AllByRecursion (λ f. functions f.body ≡ []) fs
    → AllByRecursion (λ f. AllStand gs (gather all_statements f.body)) fs
unfolding functions
body-stands gs [] h = tt
body-stands gs (f ∷ fs) h = (
  row-stands gs f.body
      (subst (λ hs. AllByRecursion (λ g. IsTrue (begins_one g.line gs)) hs) (sym h.0) tt),
  body-stands gs fs h.1,
)

tests-of : (a : Stmts) → NormalStmts a → AllExecuted (λ l k. HasTest k) a
unfolding functions
tests-of a h =
    all-executed (λ s. HasTest s.1) a (row-tests a h) (body-tests (functions a) (row-bodies a h))

defs-of : (a : Stmts) → IsWellFormed a → AllExecuted (StandsIn (functions a)) a
unfolding functions
defs-of a w =
    all-executed (λ s. StandsIn (functions a) s.0 s.1) a
    (row-stands (functions a) a (own-lines (functions a)))
    (body-stands (functions a) (functions a) (well_formed a w))

tests-at : (ms : List LoadedModule) → All IsText ms → (m : ℕ)
    → AllExecuted (λ l k. HasTest k) (body_of ms m)
unfolding functions
tests-at [] h m = tt
tests-at (x ∷ ms) h zero = tests-of x.body (All-head IsText x ms h).normal.1
tests-at (x ∷ ms) h (suc m) = tests-at ms (All-tail IsText x ms h) m

defs-at : (ms : List LoadedModule) → All IsText ms → (m : ℕ)
    → AllExecuted (StandsIn (functions (body_of ms m))) (body_of ms m)
unfolding functions
defs-at [] h m = tt
defs-at (x ∷ ms) h zero = defs-of x.body (All-head IsText x ms h).well_formed
defs-at (x ∷ ms) h (suc m) = defs-at ms (All-tail IsText x ms h) m

-- Modules that texts spell are as the laws ask, where the script marks a line.
pub regular_texts : RegularTexts
regular_texts ms texts marks =
    record { tests = tests-at ms texts; defs = defs-at ms texts; marks = marks }
