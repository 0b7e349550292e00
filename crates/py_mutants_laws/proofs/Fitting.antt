-- Versions fit: where the old statements mark nothing, the new ones are the same.
use Rattle.std.proofs.Common.{◌≡◌, ℕ, nat_eq, Bool, true, false, not, ◌||◌, IsTrue, List, [], ◌∷◌, refl}
use Rattle.std.specs.List.{AllByRecursion}
use Rattle.std.proofs.lemmas.Bool.{eq-eqb}
use Rattle.py_text.proofs.TestLaws.{both_true}
use Rattle.py_syntax.specs.Gathering.{gather, gather_kind, gather_suite, gather_opt, gather_arms, gather_clauses, gather_cases}
use Rattle.py_syntax.specs.Marks.{stmts_marks}
use Rattle.py_syntax.specs.Tree.{Stmts, no_stmts, stmt, Suite, suite, OptSuite, no_suite, has_suite, Arms, no_arms, arm, Clauses, no_clauses, clause, Cases, no_cases, case, StmtKind, global, if'}
use Rattle.py_changes.specs.Changed.{is_empty, same_silent, fits_stmts, fits_suite, fits_opt, fits_arms, fits_clauses, fits_cases}
use Rattle.py_changes.specs.Regular.{all_statements, HasTest}
use Rattle.py_changes.specs.Same.{same_texts}
use Rattle.py_changes.proofs.Lists.{all-left, all-right}
use Rattle.py_mutants_laws.proofs.SameEqual.{no-true, texts-self, equal-same}
use Rattle.py_mutants_laws.proofs.Versions.{Rows, Kinds, Suites, Opts, ArmsOf, ClausesOf, CasesOf}

-- an `if` has a test
abbrev pub Tested : ℕ × StmtKind → Type 0
Tested s = HasTest s.1

-- each `if` of these statements has one
abbrev pub HaveTests : List (ℕ × StmtKind) → Type 0
HaveTests ss = AllByRecursion Tested ss

head-test : (f : ℕ) (k : StmtKind) → HaveTests (gather_kind all_statements ((f, k) ∷ []) k)
    → HasTest k
head-test f (if' us o) t = t.0
head-test f k t = t.0

module _ (l : ℕ) where
  kind-silent : (f g a b : ℕ) (k j : StmtKind) (e x : _) (r s : Stmts) → f ≡ g → Kinds l f k j
      → HasTest k → is_empty (stmts_marks (stmt f a k e r)) ≡ true
      → (is_empty (stmts_marks r) ≡ true → IsTrue (same_silent r s))
      → IsTrue (same_silent (stmt f a k e r) (stmt g b j x s))
  kind-silent f g a b (global xs) (global ys) e x r s p h t n rest =
      both_true (nat_eq f g) _ (eq-eqb f g p)
      (both_true (same_texts xs ys) (same_silent r s) (equal-same same_texts texts-self xs ys h)
      (rest n))
  kind-silent f g a b (global xs) j e x r s p h t n rest = absurd h
  kind-silent f g a b (if' no_arms o) j e x r s p h t n rest = absurd t
  kind-silent f g a b (if' (arm c (suite u v i w) q) o) j e x r s p h t n rest = no-true n
  kind-silent f g a b k j e x r s p h t n rest = no-true n

  pub rows-silent : (a b : Stmts) → Rows l a b → HaveTests (gather all_statements a)
      → is_empty (stmts_marks a) ≡ true → IsTrue (same_silent a b)
  rows-silent no_stmts no_stmts h t n = refl
  rows-silent (stmt f a k e r) (stmt g b j x s) h t n =
      let own = gather_kind all_statements ((f, k) ∷ []) k in
      kind-silent f g a b k j e x r s h.0 h.1
      (head-test f k (all-left Tested own (gather all_statements r) t)) n
      (rows-silent r s h.2 (all-right Tested own (gather all_statements r) t))
  rows-silent a b h t n = absurd h

  rows-fit-where : (a b : Stmts) (x : Bool) → is_empty (stmts_marks a) ≡ x → Rows l a b
      → HaveTests (gather all_statements a) → IsTrue (not x || same_silent a b)
  rows-fit-where a b false e h t = refl
  rows-fit-where a b true e h t = rows-silent a b h t e

  pub rows-fit : (a b : Stmts) → Rows l a b → HaveTests (gather all_statements a)
      → IsTrue (fits_stmts a b)
  rows-fit a b h t = rows-fit-where a b (is_empty (stmts_marks a)) refl h t

  pub suites-fit : (s t : Suite) → Suites l s t → HaveTests (gather_suite all_statements s)
      → IsTrue (fits_suite s t)
  suites-fit (suite f a i b) (suite g c j d) h t = rows-fit b d h.1 t

  pub opts-fit : (o q : OptSuite) → Opts l o q → HaveTests (gather_opt all_statements o)
      → IsTrue (fits_opt o q)
  opts-fit no_suite no_suite h t = refl
  opts-fit (has_suite s) (has_suite u) h t = suites-fit s u h t
  opts-fit o q h t = absurd h

  pub arms-fit : (us bs : Arms) → ArmsOf l us bs → HaveTests (gather_arms all_statements us)
      → IsTrue (fits_arms us bs)
  arms-fit no_arms no_arms h t = refl
  arms-fit (arm e s r) (arm f u q) h t =
      let left = all-left Tested (gather_suite all_statements s) (gather_arms all_statements r)
      t in
      let right = all-right Tested (gather_suite all_statements s) (gather_arms all_statements r)
      t in
      both_true (fits_suite s u) (fits_arms r q) (suites-fit s u h.1 left)
      (arms-fit r q h.2 right)
  arms-fit us bs h t = absurd h

  pub clauses-fit : (cs ds : Clauses) → ClausesOf l cs ds
      → HaveTests (gather_clauses all_statements cs) → IsTrue (fits_clauses cs ds)
  clauses-fit no_clauses no_clauses h t = refl
  clauses-fit (clause e x s r) (clause f y u q) h t =
      let left = all-left Tested (gather_suite all_statements s) (gather_clauses all_statements r)
      t in
      let right = all-right Tested (gather_suite all_statements s)
      (gather_clauses all_statements r) t in
      both_true (fits_suite s u) (fits_clauses r q) (suites-fit s u h.2 left)
      (clauses-fit r q h.3 right)
  clauses-fit cs ds h t = absurd h

  pub cases-fit : (cs ds : Cases) → CasesOf l cs ds → HaveTests (gather_cases all_statements cs)
      → IsTrue (fits_cases cs ds)
  cases-fit no_cases no_cases h t = refl
  cases-fit (case p g s r) (case q w u c) h t =
      let left = all-left Tested (gather_suite all_statements s) (gather_cases all_statements r)
      t in
      let right = all-right Tested (gather_suite all_statements s) (gather_cases all_statements r)
      t in
      both_true (fits_suite s u) (fits_cases r c) (suites-fit s u h.2 left)
      (cases-fit r c h.3 right)
  cases-fit cs ds h t = absurd h
