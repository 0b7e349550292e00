-- Pieces give the functions of bodies.
use Rattle.std.proofs.Common.{◌≡◌, ℕ, Bool, true, false, List, [], ◌∷◌, ◌++◌, refl, ap, sym, ◌∙◌, if◌then◌else◌}
use Rattle.py_syntax.specs.Functions.{Function, defining, own_function, functions, is_docstring, without_docstring}
use Rattle.py_syntax.specs.Gathering.{gather, gather_kind}
use Rattle.py_syntax.specs.Marks.{body_marks}
use Rattle.py_syntax.specs.Tree.{Text, Stmts, no_stmts, stmt, suite, StmtKind, expr, assign, aug_assign, pass, break, continue, return, raise, assert, global, import, from, if', while, for, try, def, match}
use Rattle.cov_pieces.specs.Words.{Word, expr_words, exprs_words, maybe_words, list_words, alias_words, a_text}
use Rattle.cov_pieces.specs.Pieces.{words, header, picked, function_of, marks, mark, declaring, defined, test_words, loop_words, clause_words, case_words, def_words, in_place_words, kind_pieces, body_pieces}
use Rattle.cov_pieces.proofs.Gathered.{IsQuiet, Agrees, IsPlain, part-gives, stmts-give, picked-both}
use Rattle.cov_pieces.proofs.Agreeing.{absent, of-body}

functions-quiet : IsQuiet function_of
functions-quiet = record { opens = refl; enters = refl; closes = refl; numbers = λ n. refl; rows = λ b. refl }

no_functions : (ws : List Word) → picked function_of (words ws) ≡ []
no_functions [] = refl
no_functions (w ∷ ws) = no_functions ws

header-functions : (ws : List Word) (l : ℕ) → picked function_of (header ws l) ≡ []
header-functions ws l = part-gives function_of functions-quiet ws (mark l ∷ []) ∙ ap (λ fs. fs ++ []) (no_functions ws)

none-declared : (xs : List Text) → picked function_of (declaring xs) ≡ []
none-declared [] = refl
none-declared (x ∷ xs) = none-declared xs

none-marked : (ls : List ℕ) → picked function_of (marks ls) ≡ []
none-marked [] = refl
none-marked (l ∷ ls) = none-marked ls

simple-functions : (l last : ℕ) (k : StmtKind) → IsPlain k ≡ true → picked function_of (kind_pieces l k) ≡ gather_kind defining (own_function l k) k
simple-functions l last (expr e) h = header-functions (expr_words false e) l
simple-functions l last (assign ts e) h = header-functions (exprs_words true ts ++ expr_words false e) l
simple-functions l last (aug_assign t op e) h = header-functions (in_place_words t op e) l
simple-functions l last pass h = refl
simple-functions l last break h = refl
simple-functions l last continue h = refl
simple-functions l last (return e) h = header-functions (maybe_words e) l
simple-functions l last (raise e) h = header-functions (maybe_words e) l
simple-functions l last (assert e w) h = header-functions (expr_words false e ++ maybe_words w) l
simple-functions l last (global xs) h = none-declared xs
simple-functions l last (import is) h = header-functions (list_words alias_words is) l
simple-functions l last (from m is) h = header-functions (a_text m ∷ list_words alias_words is) l
simple-functions l last (def x ps ds c (suite f a i b)) h =
    let this : Function = record { line = l; name = x; params = ps; body = b } in
    picked-both function_of (header (def_words x ds c) l) (defined this ∷ marks (body_marks b))
    ∙ ap (λ fs. fs ++ (this ∷ picked function_of (marks (body_marks b)))) (header-functions (def_words x ds c) l)
    ∙ ap (λ fs. this ∷ fs) (none-marked (body_marks b))
simple-functions l last (if' us o) h = absent h
simple-functions l last (while e s o) h = absent h
simple-functions l last (for t e s o) h = absent h
simple-functions l last (try s cs o fin) h = absent h
simple-functions l last (match e a cs) h = absent h

functions-agree : Agrees function_of defining
functions-agree = record {
  quiet = functions-quiet;
  simple = simple-functions;
  branches = λ l last us o. refl;
  loops = λ l last e s o. header-functions (test_words l e) l;
  goes_over = λ l last t e s o. header-functions (loop_words l t e) l;
  tries = λ l last s cs o fin. refl;
  matches = λ l last e a cs. header-functions (test_words l e) l;
  tests = λ l last i b e. header-functions (test_words l e) l;
  handlers = λ l last i b e x. header-functions (clause_words l e x) l;
  patterned = λ l last i b q e. header-functions (case_words l q e) l;
}

-- a docstring is no `def`
no-def : (l : ℕ) (k : StmtKind) → is_docstring k ≡ true → gather_kind defining (own_function l k) k ≡ []
no-def l (expr e) h = refl
no-def l k h = absent h

without-docstring : (b : Stmts) → gather defining (without_docstring b) ≡ gather defining b
without-docstring no_stmts = refl
without-docstring (stmt l last k e r) = by_case (is_docstring k) refl where
  by_case : (d : Bool) → is_docstring k ≡ d → gather defining (if d then r else stmt l last k e r) ≡ gather_kind defining (own_function l k) k ++ gather defining r
  by_case true h = ap (λ fs. fs ++ gather defining r) (sym (no-def l k h))
  by_case false h = refl

-- the functions of a body
pub functions-are : (b : Stmts) → picked function_of (body_pieces b) ≡ functions b
unfolding functions
functions-are b = of-body function_of functions-quiet b ∙ stmts-give function_of defining functions-agree (without_docstring b) ∙ without-docstring b
