-- Pieces give the marks of bodies.
use Rattle.std.proofs.Common.{◌≡◌, ℕ, Bool, true, false, List, [], ◌∷◌, ◌++◌, refl, ap, ◌∙◌}
use Rattle.std.proofs.lemmas.Bool.{false≢true}
use Rattle.py_syntax.specs.Functions.{without_docstring, is_docstring}
use Rattle.py_syntax.specs.Gathering.{gather_kind}
use Rattle.py_syntax.specs.Marks.{marking, own_mark, stmts_marks, body_marks}
use Rattle.py_syntax.specs.Tree.{Text, Stmts, no_stmts, stmt, suite, StmtKind, expr, assign, aug_assign, pass, break, continue, return, raise, assert, global, import, from, if', while, for, try, def, match}
use Rattle.py_changes.specs.Changed.{has_docstring}
use Rattle.cov_pieces.specs.Words.{Word, expr_words, exprs_words, maybe_words, list_words, alias_words, a_text, truth}
use Rattle.cov_pieces.specs.Pieces.{Piece, words, header, picked, mark_of, marks, mark, declaring, defined, test_words, loop_words, clause_words, case_words, def_words, in_place_words, heads, stmts_pieces, kind_pieces, body_pieces}
use Rattle.cov_pieces.proofs.Gathered.{IsQuiet, Agrees, IsPlain, part-gives, stmts-give, picked-both, heads-quiet}

pub absent : {A : Type 0} → false ≡ true → A
absent h = absurd (false≢true h)

-- ---- bodies

-- a body gives what stands in it
pub of-body : {A : Type 0} (p : Piece → List A) → IsQuiet p → (b : Stmts) → picked p (body_pieces b) ≡ picked p (stmts_pieces (without_docstring b))
of-body p q b =
    part-gives p q (truth (has_docstring b) ∷ heads b) (stmts_pieces (without_docstring b))
    ∙ ap (λ l. l ++ picked p (stmts_pieces (without_docstring b))) (silent (has_docstring b)) where
      silent : (d : Bool) → picked p (words (truth d ∷ heads b)) ≡ []
      silent true = ap (λ l. l ++ picked p (words (heads b))) (q.numbers 1) ∙ heads-quiet p q b
      silent false = ap (λ l. l ++ picked p (words (heads b))) (q.numbers 0) ∙ heads-quiet p q b

-- ---- marks

pub body_marks-is : (a : Stmts) → stmts_marks (without_docstring a) ≡ body_marks a
body_marks-is no_stmts = refl
body_marks-is (stmt l a k e r) = by_case (is_docstring k) refl where
  by_case : (b : Bool) → is_docstring k ≡ b → stmts_marks (without_docstring (stmt l a k e r)) ≡ body_marks (stmt l a k e r)
  by_case true h = rw h refl
  by_case false h = rw h refl

marks-quiet : IsQuiet mark_of
marks-quiet = record { opens = refl; enters = refl; closes = refl; numbers = λ n. refl; rows = λ b. refl }

no_marks : (ws : List Word) → picked mark_of (words ws) ≡ []
no_marks [] = refl
no_marks (w ∷ ws) = no_marks ws

header-marks : (ws : List Word) (l : ℕ) → picked mark_of (header ws l) ≡ l ∷ []
header-marks ws l = part-gives mark_of marks-quiet ws (mark l ∷ []) ∙ ap (λ k. k ++ l ∷ []) (no_marks ws)

no_declared : (xs : List Text) → picked mark_of (declaring xs) ≡ []
no_declared [] = refl
no_declared (x ∷ xs) = no_declared xs

their_marks : (ls : List ℕ) → picked mark_of (marks ls) ≡ ls
their_marks [] = refl
their_marks (l ∷ ls) = ap (λ k. l ∷ k) (their_marks ls)

simple-marks : (l last : ℕ) (k : StmtKind) → IsPlain k ≡ true → picked mark_of (kind_pieces l k) ≡ gather_kind marking (own_mark l k) k
simple-marks l last (expr e) h = header-marks (expr_words false e) l
simple-marks l last (assign ts e) h = header-marks (exprs_words true ts ++ expr_words false e) l
simple-marks l last (aug_assign t op e) h = header-marks (in_place_words t op e) l
simple-marks l last pass h = refl
simple-marks l last break h = refl
simple-marks l last continue h = refl
simple-marks l last (return e) h = header-marks (maybe_words e) l
simple-marks l last (raise e) h = header-marks (maybe_words e) l
simple-marks l last (assert e w) h = header-marks (expr_words false e ++ maybe_words w) l
simple-marks l last (global xs) h = no_declared xs
simple-marks l last (import is) h = header-marks (list_words alias_words is) l
simple-marks l last (from m is) h = header-marks (a_text m ∷ list_words alias_words is) l
simple-marks l last (def x ps ds c (suite f a i b)) h =
    picked-both mark_of (header (def_words x ds c) l) (defined (record { line = l; name = x; params = ps; body = b }) ∷ marks (body_marks b))
    ∙ ap (λ k. k ++ picked mark_of (marks (body_marks b))) (header-marks (def_words x ds c) l)
    ∙ ap (λ k. l ∷ k) (their_marks (body_marks b))
simple-marks l last (if' us o) h = absent h
simple-marks l last (while e s o) h = absent h
simple-marks l last (for t e s o) h = absent h
simple-marks l last (try s cs o fin) h = absent h
simple-marks l last (match e a cs) h = absent h

marks-agree : Agrees mark_of marking
marks-agree = record {
  quiet = marks-quiet;
  simple = simple-marks;
  branches = λ l last us o. refl;
  loops = λ l last e s o. header-marks (test_words l e) l;
  goes_over = λ l last t e s o. header-marks (loop_words l t e) l;
  tries = λ l last s cs o fin. refl;
  matches = λ l last e a cs. header-marks (test_words l e) l;
  tests = λ l last i b e. header-marks (test_words l e) l;
  handlers = λ l last i b e x. header-marks (clause_words l e x) l;
  patterned = λ l last i b q e. header-marks (case_words l q e) l;
}

-- the marks of a body
pub marks-are : (b : Stmts) → picked mark_of (stmts_pieces (without_docstring b)) ≡ body_marks b
marks-are b = stmts-give mark_of marking marks-agree (without_docstring b) ∙ body_marks-is b

-- the same of all its pieces
pub body-marks-are : (b : Stmts) → picked mark_of (body_pieces b) ≡ body_marks b
body-marks-are b = of-body mark_of marks-quiet b ∙ marks-are b
