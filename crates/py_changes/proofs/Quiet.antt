-- Parts of a text that mark nothing do nothing.
use Rattle.std.proofs.Common.{◌≡◌, ℕ, true, false, List, [], ◌∷◌, ◌++◌, refl, ap, ◌∙◌}
use Rattle.py_syntax.specs.Marks.{stmts_marks, kind_marks, opt_marks}
use Rattle.py_syntax.specs.Tree.{Stmts, no_stmts, stmt, suite, OptSuite, no_suite, has_suite, no_arms, arm, StmtKind, global, if'}
use Rattle.py_meaning.specs.Calls.{Calls}
use Rattle.py_meaning.specs.Computations.{State, done, M, bind, give, chain}
use Rattle.py_meaning.specs.Places.{Place}
use Rattle.py_meaning.specs.Statements.{Out, normal, next, exec, exec_kind, exec_opt, exec_arms}
use Rattle.py_changes.specs.Changed.{is_empty}

-- both lists of lines are empty
none-first : (xs ys : List ℕ) → is_empty (xs ++ ys) ≡ true
    → (is_empty xs ≡ true) × (is_empty ys ≡ true)
none-first [] ys h = (refl, h)
none-first (x ∷ xs) ys h = absurd cc

-- the second of two lists has a line
pub some-later : (xs ys : List ℕ) → is_empty (xs ++ ys) ≡ false → is_empty xs ≡ true
    → is_empty ys ≡ false
some-later [] ys h e = h
some-later (x ∷ xs) ys h e = absurd cc

-- it ends as it began
abbrev pub DoesNothing : M Out → Type 0
DoesNothing f = (s : State) (n : ℕ) → f s n ≡ done normal s n

module _ (c : Calls) (p : Place) where
  mutual
    unfolding exec exec_kind exec_opt exec_arms chain give

    pub quiet-row : (a : Stmts) → is_empty (stmts_marks a) ≡ true → DoesNothing (exec c p a)
    quiet-row no_stmts e s n = refl
    quiet-row (stmt l b k f r) e s n =
        let both = none-first (kind_marks l k) (stmts_marks r) e in
        ap (λ x. bind x (λ o. next o (exec c p r))) (quiet-kind l k both.0 s n)
        ∙ quiet-row r both.1 s n

    pub quiet-kind : (l : ℕ) (k : StmtKind) → is_empty (kind_marks l k) ≡ true
        → DoesNothing (exec_kind c p l k)
    quiet-kind l (global xs) e s n = refl
    quiet-kind l (if' no_arms o) e s n = quiet-opt o e s n
    quiet-kind l (if' (arm t (suite f g i b) r) o) e s n = absurd cc
    quiet-kind l k e s n = absurd cc

    quiet-opt : (o : OptSuite) → is_empty (opt_marks o) ≡ true → DoesNothing (exec_opt c p o)
    quiet-opt no_suite e s n = refl
    quiet-opt (has_suite (suite f l i b)) e s n = quiet-row b e s n
