-- Pieces give the names that bodies bind.
use Rattle.std.proofs.Common.{◌≡◌, ℕ, Bool, true, false, List, [], ◌∷◌, ◌++◌, map, Option, Some, None, refl, ap, sym, ◌∙◌, if◌then◌else◌}
use Rattle.std.proofs.lemmas.List.{append-nil}
use Rattle.std.specs.Prelude.{unwrap_or, option_to_list}
use Rattle.py_syntax.specs.Functions.{is_docstring, without_docstring}
use Rattle.py_syntax.specs.Gathering.{gather, gather_kind}
use Rattle.py_syntax.specs.Marks.{body_marks}
use Rattle.py_syntax.specs.Names.{Binding, assigns, declares, binding, bindings, own_bindings, assigning_all, declaring_all, target_names, targets_names, pattern_names, patterns_names, alias_name}
use Rattle.py_syntax.specs.Tree.{Text, Expr, name, int, str, fstr, none, bool, tuple, list, dict, paren, not', and, or, unary, binary, compare, cond, call, index, slice, attr, Exprs, no_exprs, exprs, Pairs, no_pairs, pair, Links, no_links, link, OptExpr, absent as missing, present, Fragments, no_fragments, plain, format, Parts, no_parts, text, field}
use Rattle.py_syntax.specs.Tree.{Constant, c_int, c_str, c_none, c_bool, Pattern, literal, capture, wild, member, sequence, p_or, p_as, p_paren, Patterns, no_patterns, patterns, Alias}
use Rattle.py_syntax.specs.Tree.{Stmts, no_stmts, stmt, suite, StmtKind, expr, assign, aug_assign, pass, break, continue, return, raise, assert, global, import, from, if', while, for, try, def, match}
use Rattle.cov_pieces.specs.Words.{Word, a_number, a_text, assigned, truth, operator_number, list_words, texts_words, expr_words, exprs_words, pairs_words, links_words, opt_words, fragments_words, parts_words, maybe_words, constant_words, pattern_words, patterns_words, import_words, alias_words, bound_words}
use Rattle.cov_pieces.specs.Pieces.{words, header, picked, binding_of, marks, mark, declaring, defined, test_words, loop_words, clause_words, case_words, def_words, in_place_words, kind_pieces, body_pieces}
use Rattle.cov_pieces.proofs.Gathered.{IsQuiet, Agrees, IsPlain, part-gives, stmts-give, picked-both, picked-words}
use Rattle.cov_pieces.proofs.Agreeing.{absent, of-body}

bindings-quiet : IsQuiet binding_of
bindings-quiet = record { opens = refl; enters = refl; closes = refl; numbers = λ n. refl; rows = λ b. refl }

-- what words bind
abbrev bound : List Word → List Binding
bound ws = picked binding_of (words ws)

-- ---- words, one after another

both : (us vs : List Word) {x y : List Binding} → bound us ≡ x → bound vs ≡ y → bound (us ++ vs) ≡ x ++ y
both us vs {x = x} e f = picked-words binding_of us vs ∙ ap (λ l. l ++ bound vs) e ∙ ap (λ l. x ++ l) f

-- others, after which nothing is bound
first_of : (us vs : List Word) {x : List Binding} → bound us ≡ x → bound vs ≡ [] → bound (us ++ vs) ≡ x
first_of us vs {x = x} e f = both us vs e f ∙ append-nil x

truth-none : (b : Bool) → bound (truth b ∷ []) ≡ []
truth-none true = refl
truth-none false = refl

texts-none : (xs : List Text) → bound (texts_words xs) ≡ []
texts-none [] = refl
texts-none (x ∷ xs) = texts-none xs

-- ---- expressions

mutual
  expr-none : (e : Expr) → bound (expr_words false e) ≡ []
  expr-none (name x) = refl
  expr-none (int n) = refl
  expr-none (str ps) = texts-none ps
  expr-none (fstr fs) = fragments-none fs
  expr-none none = refl
  expr-none (bool b) = truth-none b
  expr-none (tuple es c) = both (exprs_words false es) (truth c ∷ []) (exprs-none es) (truth-none c)
  expr-none (list es c) = both (exprs_words false es) (truth c ∷ []) (exprs-none es) (truth-none c)
  expr-none (dict ps c) = both (pairs_words ps) (truth c ∷ []) (pairs-none ps) (truth-none c)
  expr-none (paren e) = expr-none e
  expr-none (not' e) = expr-none e
  expr-none (and a b) = both (expr_words false a) (expr_words false b) (expr-none a) (expr-none b)
  expr-none (or a b) = both (expr_words false a) (expr_words false b) (expr-none a) (expr-none b)
  expr-none (unary s e) = expr-none e
  expr-none (binary op a b) = both (expr_words false a) (expr_words false b) (expr-none a) (expr-none b)
  expr-none (compare a ls) = both (expr_words false a) (links_words ls) (expr-none a) (links-none ls)
  expr-none (cond a b c) =
      both (expr_words false a) (expr_words false b ++ expr_words false c) (expr-none a)
      (both (expr_words false b) (expr_words false c) (expr-none b) (expr-none c))
  expr-none (call f es c) =
      both (expr_words false f) (exprs_words false es ++ truth c ∷ []) (expr-none f)
      (both (exprs_words false es) (truth c ∷ []) (exprs-none es) (truth-none c))
  expr-none (index f e) = both (expr_words false f) (expr_words false e) (expr-none f) (expr-none e)
  expr-none (slice f a b) =
      both (expr_words false f) (opt_words a ++ opt_words b) (expr-none f)
      (both (opt_words a) (opt_words b) (opt-none a) (opt-none b))
  expr-none (attr f x) = both (expr_words false f) (a_text x ∷ []) (expr-none f) refl

  exprs-none : (es : Exprs) → bound (exprs_words false es) ≡ []
  exprs-none no_exprs = refl
  exprs-none (exprs e es) = both (expr_words false e) (exprs_words false es) (expr-none e) (exprs-none es)

  pairs-none : (ps : Pairs) → bound (pairs_words ps) ≡ []
  pairs-none no_pairs = refl
  pairs-none (pair k e ps) =
      both (expr_words false k) (expr_words false e ++ pairs_words ps) (expr-none k)
      (both (expr_words false e) (pairs_words ps) (expr-none e) (pairs-none ps))

  links-none : (ls : Links) → bound (links_words ls) ≡ []
  links-none no_links = refl
  links-none (link c e ls) = both (expr_words false e) (links_words ls) (expr-none e) (links-none ls)

  opt-none : (o : OptExpr) → bound (opt_words o) ≡ []
  opt-none missing = refl
  opt-none (present e) = expr-none e

  fragments-none : (fs : Fragments) → bound (fragments_words fs) ≡ []
  fragments-none no_fragments = refl
  fragments-none (plain x fs) = fragments-none fs
  fragments-none (format ps fs) = both (parts_words ps) (fragments_words fs) (parts-none ps) (fragments-none fs)

  parts-none : (ps : Parts) → bound (parts_words ps) ≡ []
  parts-none no_parts = refl
  parts-none (text x ps) = parts-none ps
  parts-none (field e ps) = both (expr_words false e) (parts_words ps) (expr-none e) (parts-none ps)

maybe-none : (e : Option Expr) → bound (maybe_words e) ≡ []
maybe-none None = refl
maybe-none (Some e) = expr-none e

-- ---- targets

assigning-both : (xs ys : List Text) → assigning_all xs ++ assigning_all ys ≡ assigning_all (xs ++ ys)
assigning-both [] ys = refl
assigning-both (x ∷ xs) ys = ap (λ l. assigns x ∷ l) (assigning-both xs ys)

mutual
  targets : (e : Expr) → bound (expr_words true e) ≡ assigning_all (target_names e)
  targets (name x) = refl
  targets (tuple es c) = first_of (exprs_words true es) (truth c ∷ []) (all-targets es) (truth-none c)
  targets (list es c) = first_of (exprs_words true es) (truth c ∷ []) (all-targets es) (truth-none c)
  targets (paren e) = targets e
  targets e = expr-none e

  all-targets : (es : Exprs) → bound (exprs_words true es) ≡ assigning_all (targets_names es)
  all-targets no_exprs = refl
  all-targets (exprs e es) =
      both (expr_words true e) (exprs_words true es) (targets e) (all-targets es)
      ∙ assigning-both (target_names e) (targets_names es)

-- ---- patterns

constant-none : (c : Constant) → bound (constant_words c) ≡ []
constant-none (c_int n) = refl
constant-none (c_str ps) = texts-none ps
constant-none c_none = refl
constant-none (c_bool b) = truth-none b

mutual
  captures : (p : Pattern) → bound (pattern_words p) ≡ assigning_all (pattern_names p)
  captures (literal m c) = both (truth m ∷ []) (constant_words c) (truth-none m) (constant-none c)
  captures (capture x) = refl
  captures wild = refl
  captures (member m x) = refl
  captures (sequence b ps c) = first_of (patterns_words ps) (truth c ∷ []) (all-captures ps) (truth-none c)
  captures (p_or ps) = all-captures ps
  captures (p_as p x) =
      both (pattern_words p) (assigned x ∷ []) (captures p) refl ∙ assigning-both (pattern_names p) (x ∷ [])
  captures (p_paren p) = captures p

  all-captures : (ps : Patterns) → bound (patterns_words ps) ≡ assigning_all (patterns_names ps)
  all-captures no_patterns = refl
  all-captures (patterns p ps) =
      both (pattern_words p) (patterns_words ps) (captures p) (all-captures ps)
      ∙ assigning-both (pattern_names p) (patterns_names ps)

-- ---- names that are imported, and names of exceptions

import-binds : (x : Text) (y : Option Text) → bound (import_words x y) ≡ assigns (unwrap_or y x) ∷ []
import-binds x None = refl
import-binds x (Some y) = refl

aliases-bind : (is : List Alias) → bound (list_words alias_words is) ≡ assigning_all (map alias_name is)
aliases-bind [] = refl
aliases-bind (i ∷ is) =
    both (alias_words i) (list_words alias_words is) (import-binds i.name i.bound) (aliases-bind is)

exception-binds : (x : Option Text) → bound (bound_words x) ≡ assigning_all (option_to_list x)
exception-binds None = refl
exception-binds (Some x) = refl

-- ---- statements

header-binds : (ws : List Word) (l : ℕ) {x : List Binding} → bound ws ≡ x → picked binding_of (header ws l) ≡ x
header-binds ws l {x = x} e =
    part-gives binding_of bindings-quiet ws (mark l ∷ []) ∙ append-nil (bound ws) ∙ e

loop-binds : (l : ℕ) (t e : Expr) → picked binding_of (header (loop_words l t e) l) ≡ assigning_all (target_names t)
loop-binds l t e = header-binds (loop_words l t e) l (first_of (expr_words true t) (expr_words false e) (targets t) (expr-none e))

test-binds : (l : ℕ) (e : Expr) → picked binding_of (header (test_words l e) l) ≡ []
test-binds l e = header-binds (test_words l e) l (expr-none e)

declares-all : (xs : List Text) → picked binding_of (declaring xs) ≡ declaring_all xs
declares-all [] = refl
declares-all (x ∷ xs) = ap (λ l. declares x ∷ l) (declares-all xs)

none-marked : (ls : List ℕ) → picked binding_of (marks ls) ≡ []
none-marked [] = refl
none-marked (l ∷ ls) = none-marked ls

simple-bindings : (l last : ℕ) (k : StmtKind) → IsPlain k ≡ true → picked binding_of (kind_pieces l k) ≡ gather_kind binding (own_bindings k) k
simple-bindings l last (expr e) h = header-binds (expr_words false e) l (expr-none e)
simple-bindings l last (assign ts e) h =
    header-binds (exprs_words true ts ++ expr_words false e) l
    (first_of (exprs_words true ts) (expr_words false e) (all-targets ts) (expr-none e))
simple-bindings l last (aug_assign t op e) h =
    header-binds (in_place_words t op e) l
    (first_of (expr_words true t) (a_number (operator_number op) ∷ expr_words false e) (targets t) (expr-none e))
simple-bindings l last pass h = refl
simple-bindings l last break h = refl
simple-bindings l last continue h = refl
simple-bindings l last (return e) h = header-binds (maybe_words e) l (maybe-none e)
simple-bindings l last (raise e) h = header-binds (maybe_words e) l (maybe-none e)
simple-bindings l last (assert e w) h =
    header-binds (expr_words false e ++ maybe_words w) l
    (both (expr_words false e) (maybe_words w) (expr-none e) (maybe-none w))
simple-bindings l last (global xs) h = declares-all xs
simple-bindings l last (import is) h = header-binds (list_words alias_words is) l (aliases-bind is)
simple-bindings l last (from m is) h =
    header-binds (a_text m ∷ list_words alias_words is) l (aliases-bind is)
simple-bindings l last (def x ps ds c (suite f a i b)) h =
    picked-both binding_of (header (def_words x ds c) l) (defined _ ∷ marks (body_marks b))
    ∙ ap (λ l. l ++ picked binding_of (marks (body_marks b))) (header-binds (def_words x ds c) l
    (ap (λ l. assigns x ∷ l) (both (exprs_words false ds) (truth c ∷ []) (exprs-none ds) (truth-none c))))
    ∙ ap (λ l. assigns x ∷ l) (none-marked (body_marks b))
simple-bindings l last (if' us o) h = absent h
simple-bindings l last (while e s o) h = absent h
simple-bindings l last (for t e s o) h = absent h
simple-bindings l last (try s cs o fin) h = absent h
simple-bindings l last (match e a cs) h = absent h

bindings-agree : Agrees binding_of binding
bindings-agree = record {
  quiet = bindings-quiet;
  simple = simple-bindings;
  branches = λ l last us o. refl;
  loops = λ l last e s o. test-binds l e;
  goes_over = λ l last t e s o. loop-binds l t e;
  tries = λ l last s cs o fin. refl;
  matches = λ l last e a cs. test-binds l e;
  tests = λ l last i b e. test-binds l e;
  handlers = λ l last i b e x. header-binds (clause_words l e x) l
      (both (maybe_words e) (bound_words x) (maybe-none e) (exception-binds x));
  patterned = λ l last i b q e. header-binds (case_words l q e) l
      (first_of (pattern_words q) (maybe_words e) (captures q) (maybe-none e));
}

-- a docstring binds nothing
no-binding : (k : StmtKind) → is_docstring k ≡ true → gather_kind binding (own_bindings k) k ≡ []
no-binding (expr e) h = refl
no-binding k h = absent h

without-docstring : (b : Stmts) → gather binding (without_docstring b) ≡ gather binding b
without-docstring no_stmts = refl
without-docstring (stmt l last k e r) = by_case (is_docstring k) refl where
  by_case : (d : Bool) → is_docstring k ≡ d → gather binding (if d then r else stmt l last k e r) ≡ gather_kind binding (own_bindings k) k ++ gather binding r
  by_case true h = ap (λ l. l ++ gather binding r) (sym (no-binding k h))
  by_case false h = refl

-- the names of a body
pub bindings-are : (b : Stmts) → picked binding_of (body_pieces b) ≡ bindings b
bindings-are b = of-body binding_of bindings-quiet b ∙ stmts-give binding_of binding bindings-agree (without_docstring b) ∙ without-docstring b
