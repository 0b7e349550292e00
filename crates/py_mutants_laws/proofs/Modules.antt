-- Versions change no line but the one where they differ: bodies, functions and modules.
use Rattle.std.proofs.Common.{◌≡◌, ℕ, nat_eq, Bool, true, false, not, ◌&&◌, ◌||◌, if◌then◌else◌, IsTrue, List, [], ◌∷◌, ◌++◌, filter, refl, subst, inl, inr}
use Rattle.std.specs.Prelude.{bytes_eq}
use Rattle.std.proofs.lemmas.Bool.{eq-eqb}
use Rattle.std.proofs.lemmas.Slice.Eq.{bytes_eq-Decides}
use Rattle.py_text.specs.Comparison.{is_same_text}
use Rattle.py_text.proofs.SameTexts.{text_is_same}
use Rattle.py_text.proofs.TestLaws.{both_true}
use Rattle.py_syntax.specs.Functions.{Function, functions, is_string, is_docstring, without_docstring}
use Rattle.py_syntax.specs.Gathering.{gather}
use Rattle.py_syntax.specs.Marks.{stmts_marks, body_marks}
use Rattle.py_syntax.specs.Names.{Binding, is_among, distinct, assigned_in, declared_in, local_names}
use Rattle.py_syntax.specs.Tree.{Text, Expr, Stmts, no_stmts, stmt, expr}
use Rattle.py_changes.specs.Same.{same_bool, same_texts, same_expr}
use Rattle.py_changes.specs.Changed.{same_heads, has_docstring, is_empty, same_silent, same_docstring, same_silent_body, fits_body, also, where_not, by_parts, changed_each, changed_body, are_among, same_names, changed_function, changed_functions, same_def, same_defs, changed_module}
use Rattle.py_changes.specs.Regular.{HasTest, all_statements, executed_in, AllExecuted}
use Rattle.py_changes.proofs.Bodies.{marks-of-body}
use Rattle.py_changes.proofs.Lists.{all-left, all-right}
use Rattle.py_changes.proofs.SameItself.{expr-self}
use Rattle.py_changes.proofs.SameLaws.{both, two}
use Rattle.py_mutants_laws.proofs.SameEqual.{no-true, bool-self, texts-self, equal-same}
use Rattle.py_mutants_laws.proofs.Versions.{Alike, Here, Rows}
use Rattle.py_mutants_laws.proofs.Agreeing.{kinds-agree, heads-agree, rows-bind}
use Rattle.py_mutants_laws.proofs.Fitting.{Tested, HaveTests, rows-silent}
use Rattle.py_mutants_laws.proofs.Lines.{Only, also-only, parts-only, where-only, rows-only}
use Rattle.py_mutants_laws.proofs.Functions.{FunctionOf, FunctionsOf, functions-of}

-- ---- names

or-true : (a b : Bool) → IsTrue b → IsTrue (a || b)
or-true true b h = refl
or-true false b h = h

pub left-true : (a b : Bool) → IsTrue a → IsTrue (a || b)
left-true true b h = refl
left-true false b h = absurd cc

among-more : (xs ys : List Text) (y : Text) → IsTrue (are_among xs ys)
    → IsTrue (are_among xs (y ∷ ys))
among-more [] ys y h = refl
among-more (x ∷ xs) ys y h =
    let t = both (is_among ys x) (are_among xs ys) h in
    both_true (is_among (y ∷ ys) x) (are_among xs (y ∷ ys))
    (or-true (bytes_eq x y) (is_among ys x) t.0) (among-more xs ys y t.1)

among-self : (xs : List Text) → IsTrue (are_among xs xs)
among-self [] = refl
among-self (x ∷ xs) =
    both_true (is_among (x ∷ xs) x) (are_among xs (x ∷ xs))
    (left-true (bytes_eq x x) (is_among xs x) ((bytes_eq-Decides x x).1 refl))
    (among-more xs xs x (among-self xs))

pub names-self : (xs : List Text) → IsTrue (same_names xs xs)
names-self xs = both_true (are_among xs xs) (are_among xs xs) (among-self xs) (among-self xs)

-- the local names of a function with these parameters and bindings
abbrev locals_of : List Text → List Binding → List Text
locals_of ps bs =
    filter (λ x. not (is_among (declared_in bs) x)) (distinct (ps ++ assigned_in bs))

module _ (l : ℕ) where
  -- ---- docstrings

  rows-led : (a b : Stmts) → Rows l a b → Rows l (without_docstring a) (without_docstring b)
  rows-led no_stmts no_stmts h = tt
  rows-led (stmt f a k e r) (stmt g b j x s) h =
      go (is_docstring k) (is_docstring j) (kinds-agree l f k j h.1).1
    where
      go : (y z : Bool) → y ≡ z
          → Rows l (if y then r else stmt f a k e r) (if z then s else stmt g b j x s)
      go true true p = h.2
      go false false p = h
      go true false p = absurd cc
      go false true p = absurd cc
  rows-led a b h = absurd h

  pub docstrings-agree : (a b : Stmts) → Rows l a b → has_docstring a ≡ has_docstring b
  docstrings-agree no_stmts no_stmts h = refl
  docstrings-agree (stmt f a k e r) (stmt g b j x s) h = (kinds-agree l f k j h.1).1
  docstrings-agree a b h = absurd h

  led-same : (f g : ℕ) (e d : Expr) (r : Stmts) (z : Bool) → is_string e ≡ z → f ≡ g
      → Here l Alike f e d → is_empty (if z then stmts_marks r else (f ∷ stmts_marks r)) ≡ true
      → IsTrue (nat_eq f g && same_expr e d)
  led-same f g e d r false i p h n = no-true n
  led-same f g e d r true i p (inl q) n =
      both_true (nat_eq f g) (same_expr e d) (eq-eqb f g p) (equal-same same_expr expr-self e d q)
  led-same f g e d r true i p (inr q) n = let old = q.1.names.old in absurd cc

  docstring-same : (a b : Stmts) → Rows l a b → is_empty (body_marks a) ≡ true
      → IsTrue (same_docstring a b)
  docstring-same (stmt f a (expr e) x r) (stmt g b (expr d) y s) h n =
      led-same f g e d r (is_string e) refl h.0 h.1 n
  docstring-same a b h n = refl

  -- ---- bodies

  body-only : (a b : Stmts) → Rows l a b → HaveTests (gather all_statements (without_docstring a))
      → Only l (changed_body a b)
  body-only a b h t =
      parts-only l (same_heads a b && same_bool (has_docstring a) (has_docstring b))
      (changed_each (without_docstring a) (without_docstring b)) (body_marks a, body_marks b)
      (both_true (same_heads a b) (same_bool (has_docstring a) (has_docstring b))
      (heads-agree l a b h)
      (equal-same same_bool bool-self (has_docstring a) (has_docstring b)
      (docstrings-agree a b h)))
      (rows-only l (without_docstring a) (without_docstring b) (rows-led a b h) t)

  body-fits-where : (a b : Stmts) (x : Bool) → is_empty (body_marks a) ≡ x → Rows l a b
      → HaveTests (gather all_statements (without_docstring a))
      → IsTrue (not x || same_silent_body a b)
  body-fits-where a b false e h t = refl
  body-fits-where a b true e h t =
      both_true (same_bool (has_docstring a) (has_docstring b) && same_docstring a b)
      (same_silent (without_docstring a) (without_docstring b))
      (both_true (same_bool (has_docstring a) (has_docstring b)) (same_docstring a b)
      (equal-same same_bool bool-self (has_docstring a) (has_docstring b)
      (docstrings-agree a b h))
      (docstring-same a b h e))
      (rows-silent l (without_docstring a) (without_docstring b) (rows-led a b h) t
      (subst (λ ls. is_empty ls ≡ true) (marks-of-body a) e))

  pub body-fits : (a b : Stmts) → Rows l a b
      → HaveTests (gather all_statements (without_docstring a)) → IsTrue (fits_body a b)
  body-fits a b h t = body-fits-where a b (is_empty (body_marks a)) refl h t

  -- ---- functions

  pub locals-same : (ps qs : List Text) (a b : Stmts) → ps ≡ qs → Rows l a b
      → local_names ps a ≡ local_names qs b
  locals-same ps qs a b p h = two locals_of p (rows-bind l a b h)

  function-only : (f g : Function) → FunctionOf l f g
      → HaveTests (gather all_statements (without_docstring f.body))
      → Only l (changed_function f g)
  function-only f g h t =
      also-only l
      (by_parts (same_names (local_names f.params f.body) (local_names g.params g.body))
      (changed_body f.body g.body) (body_marks f.body, body_marks g.body))
      (where_not (fits_body f.body g.body)
      (f.line ∷ body_marks f.body, g.line ∷ body_marks g.body))
      (parts-only l (same_names (local_names f.params f.body) (local_names g.params g.body))
      (changed_body f.body g.body) (body_marks f.body, body_marks g.body)
      (equal-same same_names names-self (local_names f.params f.body)
      (local_names g.params g.body) (locals-same f.params g.params f.body g.body h.params h.body))
      (body-only f.body g.body h.body t))
      (where-only l (fits_body f.body g.body)
      (f.line ∷ body_marks f.body, g.line ∷ body_marks g.body)
      (inl (body-fits f.body g.body h.body t)))

  functions-only : (fs gs : List Function) → FunctionsOf l fs gs → HaveTests (executed_in fs)
      → Only l (changed_functions fs gs)
  functions-only [] [] h t = (tt, tt)
  functions-only (f ∷ fs) (g ∷ gs) h t =
      let own = gather all_statements (without_docstring f.body) in
      also-only l (changed_function f g) (changed_functions fs gs)
      (function-only f g h.0 (all-left Tested own (executed_in fs) t))
      (functions-only fs gs h.1 (all-right Tested own (executed_in fs) t))
  functions-only fs gs h t = absurd h

  pub defs-same : (fs gs : List Function) → FunctionsOf l fs gs → IsTrue (same_defs fs gs)
  defs-same [] [] h = refl
  defs-same (f ∷ fs) (g ∷ gs) h =
      both_true (same_def f g) (same_defs fs gs)
      (both_true (nat_eq f.line g.line) _ (eq-eqb f.line g.line h.0.line)
      (both_true (is_same_text f.name g.name) (same_texts f.params g.params)
      (equal-same is_same_text text_is_same f.name g.name h.0.name)
      (equal-same same_texts texts-self f.params g.params h.0.params))) (defs-same fs gs h.1)
  defs-same fs gs h = absurd h

  -- ---- modules

  -- the tests of a module's own body
  pub own-tests : (a : Stmts) → AllExecuted (λ m k. HasTest k) a
      → HaveTests (gather all_statements (without_docstring a))
  own-tests a t =
      all-left Tested (gather all_statements (without_docstring a)) (executed_in (functions a)) t

  pub module-only : (a b : Stmts) → Rows l a b → AllExecuted (λ m k. HasTest k) a
      → Only l (changed_module a b)
  module-only a b h t =
      parts-only l (same_defs (functions a) (functions b))
      (also (changed_body a b) (changed_functions (functions a) (functions b)))
      (body_marks a, body_marks b) (defs-same (functions a) (functions b) (functions-of l a b h))
      (also-only l (changed_body a b) (changed_functions (functions a) (functions b))
      (body-only a b h (own-tests a t))
      (functions-only (functions a) (functions b) (functions-of l a b h)
      (all-right Tested (gather all_statements (without_docstring a))
      (executed_in (functions a)) t)))
