-- The occurrences in a body that bind a name are what the body binds.
use Rattle.std.proofs.Common.{◌≡◌, ℕ, List, [], ◌∷◌, ◌++◌, Option, Some, None, option_to_list, map, refl, ap, sym, ◌∙◌, append_assoc}
use Rattle.std.proofs.lemmas.List.{append-nil}
use Rattle.py_syntax.specs.Tree.{Text, Expr, name, int, str, fstr, none, bool, tuple, list, dict, paren, not', and, or, unary, binary, compare, cond, call, index, slice, attr, Exprs, no_exprs, exprs, Pairs, no_pairs, pair, Links, no_links, link, OptExpr, absent, present, Fragments, no_fragments, plain, format, Parts, no_parts, text, field}
use Rattle.py_syntax.specs.Tree.{Pattern, literal, capture, wild, member, sequence, p_or, p_as, p_paren, Patterns, no_patterns, patterns}
use Rattle.py_syntax.specs.Tree.{Stmts, no_stmts, stmt, Suite, suite, OptSuite, no_suite, has_suite, Arms, no_arms, arm, Clauses, no_clauses, clause, Cases, no_cases, case, StmtKind, expr, assign, aug_assign, pass, break, continue, return, raise, assert, global, import, from, if', while, for, try, def, match}
use Rattle.py_syntax.specs.Names.{target_names, targets_names, pattern_names, patterns_names, alias_name, Binding, assigns, declares, assigning_all, declaring_all, bindings, kind_bindings, suite_bindings, opt_bindings, arms_bindings, clauses_bindings, cases_bindings, assigned_in, declared_in, assigned_names, declared_names, is_among, add_name, add_names, distinct}
use Rattle.py_scope.specs.declared.error.ScopeError.{ScopeError}
use Rattle.py_scope.specs.declared.error.ScopeError.TheVariants.{GlobalAfterUse}
use Rattle.py_scope.specs.declared.occurrence.Occurrence.{Occurrence}
use Rattle.py_scope.specs.declared.occurrence.Occurrence.TheVariants.{Uses, Assigns, Declares}
use Rattle.py_scope.specs.Occurrences.{in_expr, in_exprs, in_pairs, in_links, in_optional, in_fragments, in_parts, in_option, in_target, in_targets, in_pattern, in_patterns, assigning, declaring, in_bound, occurrences, in_kind, in_suite, in_opt, in_arms, in_clauses, in_cases}
use Rattle.py_scope.specs.Scopes.{Names}
use Rattle.py_scope.specs.Faults.{Findings, ◌&◌, in_module, in_function, names_of, late_globals, fault_if}
use Rattle.py_scope.proofs.Gathering.{the_findings, both_lists as both_findings}
use Rattle.py_scope.specs.Seen.{Seen, after, after_one, starting}

-- the occurrences that bind a name
abbrev pub bound : List Occurrence → List Binding
bound [] = []
bound (Uses x ∷ os) = bound os
bound (Assigns x ∷ os) = assigns x ∷ bound os
bound (Declares x line ∷ os) = declares x ∷ bound os

bound-append : (xs ys : List Occurrence) → bound (xs ++ ys) ≡ bound xs ++ bound ys
bound-append [] ys = refl
bound-append (Uses x ∷ xs) ys = bound-append xs ys
bound-append (Assigns x ∷ xs) ys = ap (λ t. assigns x ∷ t) (bound-append xs ys)
bound-append (Declares x line ∷ xs) ys = ap (λ t. declares x ∷ t) (bound-append xs ys)

two : (xs ys : List Occurrence) (a b : List Binding) → bound xs ≡ a → bound ys ≡ b → bound (xs ++ ys) ≡ a ++ b
two xs ys a b h k = bound-append xs ys ∙ ap (λ t. t ++ bound ys) h ∙ ap (λ t. a ++ t) k

-- the second binds nothing
left : (xs ys : List Occurrence) (a : List Binding) → bound xs ≡ a → bound ys ≡ [] → bound (xs ++ ys) ≡ a
left xs ys a h k = two xs ys a [] h k ∙ append-nil a

-- expressions only use names
mutual
  silent-expr : (e : Expr) → bound (in_expr e) ≡ []
  silent-expr (name x) = refl
  silent-expr (int n) = refl
  silent-expr (str ps) = refl
  silent-expr (fstr fs) = silent-fragments fs
  silent-expr none = refl
  silent-expr (bool b) = refl
  silent-expr (tuple es c) = silent-exprs es
  silent-expr (list es c) = silent-exprs es
  silent-expr (dict ps c) = silent-pairs ps
  silent-expr (paren e) = silent-expr e
  silent-expr (not' e) = silent-expr e
  silent-expr (and a b) = two (in_expr a) (in_expr b) [] [] (silent-expr a) (silent-expr b)
  silent-expr (or a b) = two (in_expr a) (in_expr b) [] [] (silent-expr a) (silent-expr b)
  silent-expr (unary s e) = silent-expr e
  silent-expr (binary op a b) = two (in_expr a) (in_expr b) [] [] (silent-expr a) (silent-expr b)
  silent-expr (compare a ls) = two (in_expr a) (in_links ls) [] [] (silent-expr a) (silent-links ls)
  silent-expr (cond b t o) = two (in_expr b) (in_expr t ++ in_expr o) [] [] (silent-expr b) (two (in_expr t) (in_expr o) [] [] (silent-expr t) (silent-expr o))
  silent-expr (call g es c) = two (in_expr g) (in_exprs es) [] [] (silent-expr g) (silent-exprs es)
  silent-expr (index a b) = two (in_expr a) (in_expr b) [] [] (silent-expr a) (silent-expr b)
  silent-expr (slice a b t) = two (in_expr a) (in_optional b ++ in_optional t) [] [] (silent-expr a) (two (in_optional b) (in_optional t) [] [] (silent-optional b) (silent-optional t))
  silent-expr (attr a x) = silent-expr a

  silent-exprs : (es : Exprs) → bound (in_exprs es) ≡ []
  silent-exprs no_exprs = refl
  silent-exprs (exprs e es) = two (in_expr e) (in_exprs es) [] [] (silent-expr e) (silent-exprs es)

  silent-pairs : (ps : Pairs) → bound (in_pairs ps) ≡ []
  silent-pairs no_pairs = refl
  silent-pairs (pair k v ps) = two (in_expr k) (in_expr v ++ in_pairs ps) [] [] (silent-expr k) (two (in_expr v) (in_pairs ps) [] [] (silent-expr v) (silent-pairs ps))

  silent-links : (ls : Links) → bound (in_links ls) ≡ []
  silent-links no_links = refl
  silent-links (link op e ls) = two (in_expr e) (in_links ls) [] [] (silent-expr e) (silent-links ls)

  silent-optional : (o : OptExpr) → bound (in_optional o) ≡ []
  silent-optional absent = refl
  silent-optional (present e) = silent-expr e

  silent-fragments : (fs : Fragments) → bound (in_fragments fs) ≡ []
  silent-fragments no_fragments = refl
  silent-fragments (plain x fs) = silent-fragments fs
  silent-fragments (format ps fs) = two (in_parts ps) (in_fragments fs) [] [] (silent-parts ps) (silent-fragments fs)

  silent-parts : (ps : Parts) → bound (in_parts ps) ≡ []
  silent-parts no_parts = refl
  silent-parts (text x ps) = silent-parts ps
  silent-parts (field e ps) = two (in_expr e) (in_parts ps) [] [] (silent-expr e) (silent-parts ps)

silent-option : (o : Option Expr) → bound (in_option o) ≡ []
silent-option None = refl
silent-option (Some e) = silent-expr e

-- ---- what is bound

both : (xs ys : List Text) → assigning_all (xs ++ ys) ≡ assigning_all xs ++ assigning_all ys
both [] ys = refl
both (x ∷ xs) ys = ap (λ t. assigns x ∷ t) (both xs ys)

mutual
  target-bound : (e : Expr) → bound (in_target e) ≡ assigning_all (target_names e)
  target-bound (name x) = refl
  target-bound (int n) = silent-expr (int n)
  target-bound (str ps) = silent-expr (str ps)
  target-bound (fstr fs) = silent-expr (fstr fs)
  target-bound none = silent-expr none
  target-bound (bool b) = silent-expr (bool b)
  target-bound (tuple es c) = targets-bound es
  target-bound (list es c) = targets-bound es
  target-bound (dict ps c) = silent-expr (dict ps c)
  target-bound (paren e) = target-bound e
  target-bound (not' e) = silent-expr (not' e)
  target-bound (and a b) = silent-expr (and a b)
  target-bound (or a b) = silent-expr (or a b)
  target-bound (unary s e) = silent-expr (unary s e)
  target-bound (binary op a b) = silent-expr (binary op a b)
  target-bound (compare a ls) = silent-expr (compare a ls)
  target-bound (cond b t o) = silent-expr (cond b t o)
  target-bound (call g es c) = silent-expr (call g es c)
  target-bound (index a b) = silent-expr (index a b)
  target-bound (slice a b t) = silent-expr (slice a b t)
  target-bound (attr a x) = silent-expr (attr a x)

  targets-bound : (es : Exprs) → bound (in_targets es) ≡ assigning_all (targets_names es)
  targets-bound no_exprs = refl
  targets-bound (exprs e es) = two (in_target e) (in_targets es) _ _ (target-bound e) (targets-bound es) ∙ sym (both (target_names e) (targets_names es))

mutual
  pattern-bound : (p : Pattern) → bound (in_pattern p) ≡ assigning_all (pattern_names p)
  pattern-bound (literal m c) = refl
  pattern-bound (capture x) = refl
  pattern-bound wild = refl
  pattern-bound (member m x) = refl
  pattern-bound (sequence b ps c) = patterns-bound ps
  pattern-bound (p_or ps) = patterns-bound ps
  pattern-bound (p_as p x) = two (in_pattern p) (Assigns x ∷ []) _ (assigns x ∷ []) (pattern-bound p) refl ∙ sym (both (pattern_names p) (x ∷ []))
  pattern-bound (p_paren p) = pattern-bound p

  patterns-bound : (ps : Patterns) → bound (in_patterns ps) ≡ assigning_all (patterns_names ps)
  patterns-bound no_patterns = refl
  patterns-bound (patterns p ps) = two (in_pattern p) (in_patterns ps) _ _ (pattern-bound p) (patterns-bound ps) ∙ sym (both (pattern_names p) (patterns_names ps))

assigning-bound : (xs : List Text) → bound (assigning xs) ≡ assigning_all xs
assigning-bound [] = refl
assigning-bound (x ∷ xs) = ap (λ t. assigns x ∷ t) (assigning-bound xs)

declaring-bound : (line : ℕ) (xs : List Text) → bound (declaring line xs) ≡ declaring_all xs
declaring-bound line [] = refl
declaring-bound line (x ∷ xs) = ap (λ t. declares x ∷ t) (declaring-bound line xs)

name-bound : (x : Option Text) → bound (in_bound x) ≡ assigning_all (option_to_list x)
name-bound None = refl
name-bound (Some x) = refl

mutual
  pub all-bound : (b : Stmts) → bound (occurrences b) ≡ bindings b
  all-bound no_stmts = refl
  all-bound (stmt first last k e ss) = two (in_kind first k) (occurrences ss) _ _ (kind-bound first k) (all-bound ss)

  kind-bound : (line : ℕ) (k : StmtKind) → bound (in_kind line k) ≡ kind_bindings k
  kind-bound line (expr e) = silent-expr e
  kind-bound line (assign ts e) = left (in_targets ts) (in_expr e) _ (targets-bound ts) (silent-expr e)
  kind-bound line (aug_assign t op e) = left (in_target t) (in_expr e) _ (target-bound t) (silent-expr e)
  kind-bound line pass = refl
  kind-bound line break = refl
  kind-bound line continue = refl
  kind-bound line (return e) = silent-option e
  kind-bound line (raise e) = silent-option e
  kind-bound line (assert e why) = two (in_expr e) (in_option why) [] [] (silent-expr e) (silent-option why)
  kind-bound line (global xs) = declaring-bound line xs
  kind-bound line (import names) = assigning-bound (map alias_name names)
  kind-bound line (from m names) = assigning-bound (map alias_name names)
  kind-bound line (if' arms o) = two (in_arms arms) (in_opt o) _ _ (arms-bound arms) (opt-bound o)
  kind-bound line (while t b o) = two (in_expr t) (in_suite b ++ in_opt o) [] _ (silent-expr t) (two (in_suite b) (in_opt o) _ _ (suite-bound b) (opt-bound o))
  kind-bound line (for t e b o) =
      two (in_target t ++ in_expr e) (in_suite b ++ in_opt o) _ _ (left (in_target t) (in_expr e) _ (target-bound t) (silent-expr e))
      (two (in_suite b) (in_opt o) _ _ (suite-bound b) (opt-bound o))
  kind-bound line (try b cs o g) =
      two (in_suite b) (in_clauses cs ++ (in_opt o ++ in_opt g)) _ _ (suite-bound b)
      (two (in_clauses cs) (in_opt o ++ in_opt g) _ _ (clauses-bound cs) (two (in_opt o) (in_opt g) _ _ (opt-bound o) (opt-bound g)))
  kind-bound line (def x ps ds c b) = ap (λ t. assigns x ∷ t) (silent-exprs ds)
  kind-bound line (match e last cs) = two (in_expr e) (in_cases cs) [] _ (silent-expr e) (cases-bound cs)

  suite-bound : (s : Suite) → bound (in_suite s) ≡ suite_bindings s
  suite-bound (suite first last inline b) = all-bound b

  opt-bound : (o : OptSuite) → bound (in_opt o) ≡ opt_bindings o
  opt-bound no_suite = refl
  opt-bound (has_suite s) = suite-bound s

  arms-bound : (arms : Arms) → bound (in_arms arms) ≡ arms_bindings arms
  arms-bound no_arms = refl
  arms-bound (arm t b arms) = two (in_expr t) (in_suite b ++ in_arms arms) [] _ (silent-expr t) (two (in_suite b) (in_arms arms) _ _ (suite-bound b) (arms-bound arms))

  clauses-bound : (cs : Clauses) → bound (in_clauses cs) ≡ clauses_bindings cs
  clauses-bound no_clauses = refl
  clauses-bound (clause e x b cs) =
      two (in_option e ++ in_bound x) (in_suite b ++ in_clauses cs) _ _ (two (in_option e) (in_bound x) [] _ (silent-option e) (name-bound x))
      (two (in_suite b) (in_clauses cs) _ _ (suite-bound b) (clauses-bound cs))

  cases-bound : (cs : Cases) → bound (in_cases cs) ≡ cases_bindings cs
  cases-bound no_cases = refl
  cases-bound (case p g b cs) =
      two (in_pattern p ++ in_option g) (in_suite b ++ in_cases cs) _ _ (left (in_pattern p) (in_option g) _ (pattern-bound p) (silent-option g))
      (two (in_suite b) (in_cases cs) _ _ (suite-bound b) (cases-bound cs))

-- ---- what is gathered

after-assigned : (s : Seen) (os : List Occurrence) → (after s os).assigned ≡ add_names s.assigned (assigned_in (bound os))
after-assigned s [] = refl
after-assigned s (Uses x ∷ os) = after-assigned (after_one s (Uses x)) os
after-assigned s (Assigns x ∷ os) = after-assigned (after_one s (Assigns x)) os
after-assigned s (Declares x line ∷ os) = after-assigned (after_one s (Declares x line)) os

after-declared : (s : Seen) (os : List Occurrence) → (after s os).declared ≡ add_names s.declared (declared_in (bound os))
after-declared s [] = refl
after-declared s (Uses x ∷ os) = after-declared (after_one s (Uses x)) os
after-declared s (Assigns x ∷ os) = after-declared (after_one s (Assigns x)) os
after-declared s (Declares x line ∷ os) = after-declared (after_one s (Declares x line)) os

after-late : (s : Seen) (os : List Occurrence) → (after s os).late ≡ s.late ++ late_globals s.used os
after-late s [] = sym (append-nil s.late)
after-late s (Uses x ∷ os) = after-late (after_one s (Uses x)) os
after-late s (Assigns x ∷ os) = after-late (after_one s (Assigns x)) os
after-late s (Declares x line ∷ os) = after-late (after_one s (Declares x line)) os ∙ append_assoc s.late (fault_if (is_among s.used x) (GlobalAfterUse line)) (late_globals s.used os)

add_names-append : (a xs ys : List Text) → add_names a (xs ++ ys) ≡ add_names (add_names a xs) ys
add_names-append a [] ys = refl
add_names-append a (x ∷ xs) ys = add_names-append (add_name a x) xs ys

assigned-is : (ps : List Text) (b : Stmts) → (after (starting ps) (occurrences b)).assigned ≡ distinct (ps ++ assigned_names b)
assigned-is ps b = after-assigned (starting ps) (occurrences b) ∙ ap (λ bs. add_names (add_names [] ps) (assigned_in bs)) (all-bound b) ∙ sym (add_names-append [] ps (assigned_names b))

declared-is : (ps : List Text) (b : Stmts) → (after (starting ps) (occurrences b)).declared ≡ distinct (declared_names b)
declared-is ps b = after-declared (starting ps) (occurrences b) ∙ ap (λ bs. add_names [] (declared_in bs)) (all-bound b)

-- the faults of the declarations of a body
pub late-is : (ps : List Text) (b : Stmts) (s : Seen) → s ≡ after (starting ps) (occurrences b) → s.late ≡ late_globals (distinct ps) (occurrences b)
late-is ps b s e = ap (λ t. t.late) e ∙ after-late (starting ps) (occurrences b)

abbrev pub two_lists : List Text → List Text → Names
two_lists xs ys = record { assigned = xs; globals = ys }

both_lists : (xs ys vs ws : List Text) → xs ≡ vs → ys ≡ ws → two_lists xs ys ≡ two_lists vs ws
both_lists xs ys vs ws e f = ap (λ t. two_lists t ys) e ∙ ap (two_lists vs) f

-- the names of a function
pub names-are : (ps : List Text) (b : Stmts) (s : Seen) → s ≡ after (starting ps) (occurrences b) → two_lists s.assigned s.declared ≡ names_of ps b
names-are ps b s e = both_lists s.assigned s.declared _ _ (ap (λ t. t.assigned) e ∙ assigned-is ps b) (ap (λ t. t.declared) e ∙ declared-is ps b)

-- what a report becomes by a function, and by the declarations of a module
abbrev pub the_seen : List Text → List Text → List Text → List ScopeError → Seen
the_seen u a d ls = record { used = u; assigned = a; declared = d; late = ls }

pub reported : (fs ls fs' : List ScopeError) (ms ms' : List Names) (u a d : List Text) (s : Findings) (ps : List Text) (b : Stmts) → fs' ≡ fs ++ ls → ms' ≡ ms ++ two_lists a d ∷ [] → the_findings fs ms ≡ s
    → the_seen u a d ls ≡ after (starting ps) (occurrences b) → the_findings fs' ms' ≡ (s & in_function ps b)
reported fs ls fs' ms ms' u a d s ps b e f g h =
    both_findings fs' (fs ++ late_globals (distinct ps) (occurrences b)) ms' (ms ++ names_of ps b ∷ []) (e ∙ ap (λ l. fs ++ l) (late-is ps b (the_seen u a d ls) h)) (f ∙ ap (λ n. ms ++ n ∷ []) (names-are ps b (the_seen u a d ls) h))
    ∙ ap (λ t. t & in_function ps b) g

pub declared-in : (fs ls fs' : List ScopeError) (ms : List Names) (u a d : List Text) (s : Findings) (b : Stmts) → fs' ≡ fs ++ ls → the_findings fs ms ≡ s
    → the_seen u a d ls ≡ after (starting []) (occurrences b) → the_findings fs' ms ≡ (s & in_module b)
declared-in fs ls fs' ms u a d s b e g h =
    both_findings fs' (fs ++ late_globals [] (occurrences b)) ms (ms ++ []) (e ∙ ap (λ l. fs ++ l) (late-is [] b (the_seen u a d ls) h)) (sym (append-nil ms))
    ∙ ap (λ t. t & in_module b) g
