-- The changed lines of statements are those of their pieces, compared.
use Rattle.std.proofs.Common.{◌≡◌, ℕ, nat_eq, Bool, true, false, ◌&&◌, List, [], ◌∷◌, ◌++◌, refl, ap, ◌∙◌, subst}
use Rattle.std.proofs.lemmas.Bool.{eqb-true}
use Rattle.py_syntax.specs.Functions.{without_docstring, is_docstring}
use Rattle.py_syntax.specs.Marks.{stmts_marks, kind_marks, suite_marks, opt_marks, arms_marks, clauses_marks, cases_marks, body_marks}
use Rattle.py_syntax.specs.Tree.{Stmts, no_stmts, stmt, Suite, suite, OptSuite, no_suite, has_suite, Arms, no_arms, arm, Clauses, no_clauses, clause, Cases, no_cases, case, StmtKind, expr, assign, aug_assign, pass, break, continue, return, raise, assert, global, import, from, if', while, for, try, def, match}
use Rattle.py_changes.specs.Same.{same_bool}
use Rattle.py_changes.specs.Changed.{kind_number, same_heads, has_docstring, fits_stmts, fits_suite, fits_opt, fits_arms, fits_clauses, fits_cases, stmts_by, changed_each, changed_kind, changed_suite, changed_opt, changed_arms, changed_clauses, changed_cases, changed_body}
use Rattle.cov_changed.specs.Compared.{same_word, same_words}
use Rattle.cov_pieces.specs.Words.{Word, a_text, truth, list_words, expr_words, exprs_words, maybe_words, alias_words}
use Rattle.cov_pieces.proofs.Agreeing.{absent, body_marks-is}
use Rattle.cov_pieces.specs.Pieces.{node, header, suite_fit, opt_fit, arms_fit, clauses_fit, cases_fit, heads, test_words, loop_words, clause_words, case_words, def_words, in_place_words, stmts_pieces, kind_pieces, suite_pieces, opt_pieces, arms_pieces, clauses_pieces, cases_pieces, body_pieces}
use Rattle.cov_changed.proofs.Words.{first, second, Tells, nothing, word, also, numbered, apart, and_comm, truth-is, lines, operators, texts, names, truths, expr-is, exprs-is, maybe-is, pattern-is, aliases-is, bound-is}
use Rattle.cov_changed.proofs.Compared.{also_none, IsWhole, whole-none, whole-mark, whole-defined, whole-both, whole-marks, whole-declaring, whole-node, Follows, follows-none, follows-both, follows-as, follows-mark, follows-defined, follows-marks, follows-declaring, follows-node, follows-part, follows-header}

-- ---- marks of pieces

whole-header : (ws : List Word) (l : ℕ) → IsWhole (header ws l) (l ∷ [])
whole-header ws l = whole-node ws (whole-mark l)

mutual
  pub whole-stmts : (a : Stmts) → IsWhole (stmts_pieces a) (stmts_marks a)
  whole-stmts no_stmts = whole-none
  whole-stmts (stmt l last k e r) = whole-both (whole-kind l k) (whole-stmts r)

  pub whole-kind : (l : ℕ) (k : StmtKind) → IsWhole (kind_pieces l k) (kind_marks l k)
  whole-kind l (expr e) = whole-header (expr_words false e) l
  whole-kind l (assign ts e) = whole-header (exprs_words true ts ++ expr_words false e) l
  whole-kind l (aug_assign t op e) = whole-header (in_place_words t op e) l
  whole-kind l pass = whole-header [] l
  whole-kind l break = whole-header [] l
  whole-kind l continue = whole-header [] l
  whole-kind l (return e) = whole-header (maybe_words e) l
  whole-kind l (raise e) = whole-header (maybe_words e) l
  whole-kind l (assert e w) = whole-header (expr_words false e ++ maybe_words w) l
  whole-kind l (global xs) = whole-declaring xs
  whole-kind l (import is) = whole-header (list_words alias_words is) l
  whole-kind l (from m is) = whole-header (a_text m ∷ list_words alias_words is) l
  whole-kind l (if' us o) = whole-node (arms_fit us ++ opt_fit o ∷ []) (whole-both (whole-arms us) (whole-opt o))
  whole-kind l (while e s o) =
      whole-node (suite_fit s ∷ opt_fit o ∷ []) (whole-both (whole-header (test_words l e) l) (whole-both (whole-suite s) (whole-opt o)))
  whole-kind l (for t e s o) =
      whole-node (suite_fit s ∷ opt_fit o ∷ []) (whole-both (whole-header (loop_words l t e) l) (whole-both (whole-suite s) (whole-opt o)))
  whole-kind l (try s cs o fin) =
      whole-node (suite_fit s ∷ (clauses_fit cs ++ opt_fit o ∷ opt_fit fin ∷ [])) (whole-both (whole-mark l) (whole-both (whole-suite s)
      (whole-both (whole-clauses cs) (whole-both (whole-opt o) (whole-opt fin)))))
  whole-kind l (def x ps ds c (suite f i t b)) =
      whole-both (whole-header (def_words x ds c) l) (whole-both (whole-defined (record { line = l; name = x; params = ps; body = b })) (whole-marks (body_marks b)))
  whole-kind l (match e last cs) = whole-node (cases_fit cs) (whole-both (whole-header (test_words l e) l) (whole-cases cs))

  whole-suite : (s : Suite) → IsWhole (suite_pieces s) (suite_marks s)
  whole-suite (suite f l i b) = whole-node (heads b) (whole-stmts b)

  whole-opt : (o : OptSuite) → IsWhole (opt_pieces o) (opt_marks o)
  whole-opt no_suite = whole-none
  whole-opt (has_suite s) = whole-suite s

  whole-arms : (us : Arms) → IsWhole (arms_pieces us) (arms_marks us)
  whole-arms no_arms = whole-none
  whole-arms (arm e (suite f l i b) r) =
      whole-both (whole-header (test_words f e) f) (whole-both (whole-node (heads b) (whole-stmts b)) (whole-arms r))

  whole-clauses : (cs : Clauses) → IsWhole (clauses_pieces cs) (clauses_marks cs)
  whole-clauses no_clauses = whole-none
  whole-clauses (clause e x (suite f l i b) r) =
      whole-both (whole-header (clause_words f e x) f) (whole-both (whole-node (heads b) (whole-stmts b)) (whole-clauses r))

  whole-cases : (cs : Cases) → IsWhole (cases_pieces cs) (cases_marks cs)
  whole-cases no_cases = whole-none
  whole-cases (case p g (suite f l i b) r) =
      whole-both (whole-header (case_words f p g) f) (whole-both (whole-node (heads b) (whole-stmts b)) (whole-cases r))

-- ---- what is compared of suites and rows as wholes

suite-fit : (s t : Suite) → same_word (suite_fit s) (suite_fit t) ≡ fits_suite s t
suite-fit (suite f l i b) (suite g m j d) = refl

suites : (s t : Suite) → Tells (suite_fit s ∷ []) (suite_fit t ∷ []) (fits_suite s t)
suites s t = word (suite-fit s t)

opt-fit : (o q : OptSuite) → same_word (opt_fit o) (opt_fit q) ≡ fits_opt o q
opt-fit no_suite no_suite = refl
opt-fit (has_suite (suite f l i b)) (has_suite (suite g m j d)) = refl
opt-fit no_suite (has_suite (suite g m j d)) = refl
opt-fit (has_suite (suite f l i b)) no_suite = refl

opts : (o q : OptSuite) → Tells (opt_fit o ∷ []) (opt_fit q ∷ []) (fits_opt o q)
opts o q = word (opt-fit o q)

arms-fit : (us vs : Arms) → Tells (arms_fit us) (arms_fit vs) (fits_arms us vs)
arms-fit no_arms no_arms = numbered 0 refl nothing
arms-fit (arm e s r) (arm f t q) = also (suites s t) (arms-fit r q)
arms-fit no_arms (arm f (suite g m j d) q) = apart (λ xs ys. refl)
arms-fit (arm e (suite f l i b) r) no_arms = apart (λ xs ys. refl)

clauses-fit : (us vs : Clauses) → Tells (clauses_fit us) (clauses_fit vs) (fits_clauses us vs)
clauses-fit no_clauses no_clauses = numbered 0 refl nothing
clauses-fit (clause e x s r) (clause f y t q) = also (suites s t) (clauses-fit r q)
clauses-fit no_clauses (clause f y (suite g m j d) q) = apart (λ xs ys. refl)
clauses-fit (clause e x (suite f l i b) r) no_clauses = apart (λ xs ys. refl)

cases-fit : (us vs : Cases) → Tells (cases_fit us) (cases_fit vs) (fits_cases us vs)
cases-fit no_cases no_cases = numbered 0 refl nothing
cases-fit (case e x s r) (case f y t q) = also (suites s t) (cases-fit r q)
cases-fit no_cases (case f y (suite g m j d) q) = apart (λ xs ys. refl)
cases-fit (case e x (suite f l i b) r) no_cases = apart (λ xs ys. refl)

heads-is : (a b : Stmts) → same_words (heads a) (heads b) ≡ same_heads a b
heads-is no_stmts no_stmts = refl
heads-is (stmt l a k e r) (stmt m b j f s) =
    ap (λ t. nat_eq l m && (nat_eq (kind_number k) (kind_number j) && t)) (heads-is r s)
heads-is no_stmts (stmt m b j f s) = refl
heads-is (stmt l a k e r) no_stmts = refl

-- ---- changed lines

-- a row, by its statements
row : (b d : Stmts) → (same_heads b d ≡ true → Follows (stmts_pieces b) (stmts_pieces d) (changed_each b d))
    → Follows (node (heads b) (stmts_pieces b)) (node (heads d) (stmts_pieces d)) (stmts_by b d (changed_each b d))
row b d h = follows-node (heads b) (heads d) (heads-is b d) h (whole-stmts b) (whole-stmts d)

at-line : (l m : ℕ) (k j : StmtKind) → l ≡ m → Follows (kind_pieces l k) (kind_pieces l j) (changed_kind l k j) → Follows (kind_pieces l k) (kind_pieces m j) (changed_kind l k j)
at-line l m k j e h = subst (λ n. Follows (kind_pieces l k) (kind_pieces n j) (changed_kind l k j)) e h

mutual
  pub follows-stmts : (a b : Stmts) → same_heads a b ≡ true → Follows (stmts_pieces a) (stmts_pieces b) (changed_each a b)
  follows-stmts no_stmts no_stmts h = follows-none
  follows-stmts (stmt l a k e r) (stmt m b j f s) h =
      let rest = second (nat_eq l m) (nat_eq (kind_number k) (kind_number j) && same_heads r s) h in
      follows-both (at-line l m k j (eqb-true l m (first (nat_eq l m) _ h)) (follows-kind l k j (first (nat_eq (kind_number k) (kind_number j)) (same_heads r s) rest)))
      (follows-stmts r s (second (nat_eq (kind_number k) (kind_number j)) (same_heads r s) rest))
  follows-stmts no_stmts (stmt m b j f s) h = absent h
  follows-stmts (stmt l a k e r) no_stmts h = absent h

  pub follows-kind : (l : ℕ) (k j : StmtKind) → nat_eq (kind_number k) (kind_number j) ≡ true → Follows (kind_pieces l k) (kind_pieces l j) (changed_kind l k j)
  follows-kind l (expr e) (expr f) h = follows-header l l (expr-is false e f)
  follows-kind l (assign ts e) (assign us f) h =
      follows-header l l (also (exprs-is true ts us) (expr-is false e f))
  follows-kind l (aug_assign t op e) (aug_assign u oq f) h =
      follows-header l l (also (expr-is true t u) (also (operators op oq) (expr-is false e f)))
  follows-kind l pass pass h = follows-header l l nothing
  follows-kind l break break h = follows-header l l nothing
  follows-kind l continue continue h = follows-header l l nothing
  follows-kind l (return e) (return f) h = follows-header l l (maybe-is e f)
  follows-kind l (raise e) (raise f) h = follows-header l l (maybe-is e f)
  follows-kind l (assert e w) (assert f v) h =
      follows-header l l (also (expr-is false e f) (maybe-is w v))
  follows-kind l (global xs) (global ys) h = follows-declaring xs ys
  follows-kind l (import is) (import js) h = follows-header l l (aliases-is is js)
  follows-kind l (from m is) (from n js) h =
      follows-header l l (also (texts m n) (aliases-is is js))
  follows-kind l (if' us o) (if' vs q) h =
      follows-part (also (arms-fit us vs) (opts o q))
      (λ t. follows-both (follows-arms us vs (first (fits_arms us vs) (fits_opt o q) t)) (follows-opt o q (second (fits_arms us vs) (fits_opt o q) t)))
      (whole-both (whole-arms us) (whole-opt o)) (whole-both (whole-arms vs) (whole-opt q))
  follows-kind l (while e s o) (while f t q) h =
      follows-part (also (suites s t) (opts o q))
      (λ u. follows-both (follows-header l l (also (lines l l) (expr-is false e f)))
      (follows-both (follows-suite s t) (follows-opt o q (second (fits_suite s t) (fits_opt o q) u))))
      (whole-both (whole-header (test_words l e) l) (whole-both (whole-suite s) (whole-opt o)))
      (whole-both (whole-header (test_words l f) l) (whole-both (whole-suite t) (whole-opt q)))
  follows-kind l (for x e s o) (for y f t q) h =
      follows-part (also (suites s t) (opts o q))
      (λ u. follows-both (follows-header l l (also (lines l l) (also (expr-is true x y) (expr-is false e f))))
      (follows-both (follows-suite s t) (follows-opt o q (second (fits_suite s t) (fits_opt o q) u))))
      (whole-both (whole-header (loop_words l x e) l) (whole-both (whole-suite s) (whole-opt o)))
      (whole-both (whole-header (loop_words l y f) l) (whole-both (whole-suite t) (whole-opt q)))
  follows-kind l (try s cs o fin) (try t ds q gin) h =
      follows-part (also (suites s t) (also (clauses-fit cs ds) (also (opts o q) (opts fin gin))))
      (λ u. let rest = second (fits_suite s t) (fits_clauses cs ds && (fits_opt o q && fits_opt fin gin)) u in
      let others = second (fits_clauses cs ds) (fits_opt o q && fits_opt fin gin) rest in
      follows-both (follows-mark l l) (follows-both (follows-suite s t)
      (follows-both (follows-clauses cs ds (first (fits_clauses cs ds) (fits_opt o q && fits_opt fin gin) rest))
      (follows-both (follows-opt o q (first (fits_opt o q) (fits_opt fin gin) others)) (follows-opt fin gin (second (fits_opt o q) (fits_opt fin gin) others))))))
      (whole-both (whole-mark l) (whole-both (whole-suite s) (whole-both (whole-clauses cs) (whole-both (whole-opt o) (whole-opt fin)))))
      (whole-both (whole-mark l) (whole-both (whole-suite t) (whole-both (whole-clauses ds) (whole-both (whole-opt q) (whole-opt gin)))))
  follows-kind l (def x ps ds c (suite f a i b)) (def y qs es d (suite g z k e)) h =
      follows-as (also_none _)
      (follows-both (follows-header l l (also (names x y) (also (exprs-is false ds es) (truths c d))))
      (follows-both (follows-defined _ _) (follows-marks (body_marks b) (body_marks e))))
  follows-kind l (match e a cs) (match f b ds) h =
      follows-part (cases-fit cs ds)
      (λ u. follows-both (follows-header l l (also (lines l l) (expr-is false e f))) (follows-cases cs ds u))
      (whole-both (whole-header (test_words l e) l) (whole-cases cs)) (whole-both (whole-header (test_words l f) l) (whole-cases ds))
  follows-kind l k j h = absent h

  follows-suite : (s t : Suite) → Follows (suite_pieces s) (suite_pieces t) (changed_suite s t)
  follows-suite (suite f l i b) (suite g m j d) = row b d (follows-stmts b d)

  follows-opt : (o q : OptSuite) → fits_opt o q ≡ true → Follows (opt_pieces o) (opt_pieces q) (changed_opt o q)
  follows-opt no_suite no_suite h = follows-none
  follows-opt (has_suite s) (has_suite t) h = follows-suite s t
  follows-opt no_suite (has_suite t) h = absent h
  follows-opt (has_suite s) no_suite h = absent h

  follows-arms : (us vs : Arms) → fits_arms us vs ≡ true → Follows (arms_pieces us) (arms_pieces vs) (changed_arms us vs)
  follows-arms no_arms no_arms h = follows-none
  follows-arms (arm e (suite l a i b) r) (arm f (suite m c j d) q) h =
      follows-both (follows-header l m (also (lines l m) (expr-is false e f)))
      (follows-both (row b d (follows-stmts b d)) (follows-arms r q (second (fits_stmts b d) (fits_arms r q) h)))
  follows-arms no_arms (arm f t q) h = absent h
  follows-arms (arm e s r) no_arms h = absent h

  follows-clauses : (us vs : Clauses) → fits_clauses us vs ≡ true → Follows (clauses_pieces us) (clauses_pieces vs) (changed_clauses us vs)
  follows-clauses no_clauses no_clauses h = follows-none
  follows-clauses (clause e x (suite l a i b) r) (clause f y (suite m c j d) q) h =
      follows-both (follows-header l m (also (lines l m) (also (maybe-is e f) (bound-is x y))))
      (follows-both (row b d (follows-stmts b d)) (follows-clauses r q (second (fits_stmts b d) (fits_clauses r q) h)))
  follows-clauses no_clauses (clause f y t q) h = absent h
  follows-clauses (clause e x s r) no_clauses h = absent h

  follows-cases : (us vs : Cases) → fits_cases us vs ≡ true → Follows (cases_pieces us) (cases_pieces vs) (changed_cases us vs)
  follows-cases no_cases no_cases h = follows-none
  follows-cases (case p g (suite l a i b) r) (case q k (suite m c j d) s) h =
      follows-both (follows-header l m (also (lines l m) (also (pattern-is p q) (maybe-is g k))))
      (follows-both (row b d (follows-stmts b d)) (follows-cases r s (second (fits_stmts b d) (fits_cases r s) h)))
  follows-cases no_cases (case f y t q) h = absent h
  follows-cases (case e x s r) no_cases h = absent h

-- ---- bodies

pub whole-body : (a : Stmts) → IsWhole (stmts_pieces (without_docstring a)) (body_marks a)
whole-body a = subst (IsWhole (stmts_pieces (without_docstring a))) (body_marks-is a) (whole-stmts (without_docstring a))

-- bodies that agree do so without docstrings
without-same : (a b : Stmts) → same_heads a b ≡ true → same_bool (has_docstring a) (has_docstring b) ≡ true → same_heads (without_docstring a) (without_docstring b) ≡ true
without-same no_stmts no_stmts h d = refl
without-same (stmt l a k e r) (stmt m b j f s) h d = by_case (is_docstring k) (is_docstring j) refl refl d where
  by_case : (u v : Bool) → is_docstring k ≡ u → is_docstring j ≡ v → same_bool (is_docstring k) (is_docstring j) ≡ true → same_heads (without_docstring (stmt l a k e r)) (without_docstring (stmt m b j f s)) ≡ true
  by_case true true p q d = rw (p, q) (second (nat_eq (kind_number k) (kind_number j)) (same_heads r s) (second (nat_eq l m) (nat_eq (kind_number k) (kind_number j) && same_heads r s) h))
  by_case false false p q d = rw (p, q) h
  by_case true false p q d = absent (rw (p, q) at d)
  by_case false true p q d = absent (rw (p, q) at d)
without-same no_stmts (stmt m b j f s) h d = absent h
without-same (stmt l a k e r) no_stmts h d = absent h

pub follows-body : (a b : Stmts) → Follows (body_pieces a) (body_pieces b) (changed_body a b)
follows-body a b =
    follows-node (truth (has_docstring a) ∷ heads a) (truth (has_docstring b) ∷ heads b)
    (ap (λ t. t && same_words (heads a) (heads b)) (truth-is (has_docstring a) (has_docstring b))
    ∙ ap (λ t. same_bool (has_docstring a) (has_docstring b) && t) (heads-is a b)
    ∙ and_comm (same_bool (has_docstring a) (has_docstring b)) (same_heads a b))
    (λ t. follows-stmts (without_docstring a) (without_docstring b) (without-same a b (first (same_heads a b) _ t) (second (same_heads a b) _ t)))
    (whole-body a) (whole-body b)
