-- No `def` stands in a function of a module without a fault of scope.
--     FlatIn         what is shown of the `def`s of statements, which stand in a function or not
--     flat           statements in which no fault is found
use Rattle.std.proofs.Common.{◌≡◌, ℕ, Bool, true, false, List, [], ◌∷◌, ◌++◌, refl, sym, ap, ◌∙◌, subst}
use Rattle.py_compile.specs.Definitions.{Definition, definitions, definitions_in, opt_definitions, arms_definitions, clauses_definitions, cases_definitions}
use Rattle.py_scope.specs.declared.error.ScopeError.{ScopeError}
use Rattle.py_scope.specs.declared.error.ScopeError.TheVariants.{NestedFunction, TwiceNamed}
use Rattle.py_scope.specs.Faults.{Findings, ◌&◌, blame, blame_case, in_loop, in_clause, in_finally, function_place, in_function, findings, kind_findings, function_findings, opt_findings, arms_findings, clauses_findings, cases_findings}
use Rattle.py_scope.specs.Patterns.{has_repeats}
use Rattle.py_syntax.specs.Tree.{Stmts, no_stmts, stmt, suite, OptSuite, no_suite, has_suite, Arms, no_arms, arm, Clauses, no_clauses, clause, Cases, no_cases, case, StmtKind, expr, assign, aug_assign, pass, break, continue, return, raise, assert, global, import, from, if', while, for, try, def, match}

-- no fault is found
abbrev pub Clear : Findings → Type 0
Clear f = f.faults ≡ []

front_none : (xs ys : List ScopeError) → xs ++ ys ≡ [] → xs ≡ []
front_none [] ys h = refl
front_none (x ∷ xs) ys h = cc

pub back_none : (xs ys : List ScopeError) → xs ++ ys ≡ [] → ys ≡ []
back_none [] ys h = h
back_none (x ∷ xs) ys h = cc

left : (f g : Findings) → Clear (f & g) → Clear f
left f g h = front_none f.faults g.faults h

right : (f g : Findings) → Clear (f & g) → Clear g
right f g h = back_none f.faults g.faults h

not_blamed : (b : Bool) (e : ScopeError) → Clear (blame b e) → b ≡ false
not_blamed true e h = cc
not_blamed false e h = refl

-- no `def` stands in the functions of these `def`s
abbrev pub AreFlat : List Definition → Type 0
AreFlat [] = Unit {0}
AreFlat (d ∷ ds) = (definitions d.function.body ≡ []) × AreFlat ds

-- in a function there is none, and elsewhere they are such
abbrev pub FlatIn : Bool → List Definition → Type 0
FlatIn true ds = ds ≡ []
FlatIn false ds = AreFlat ds

none_flat : (a : Bool) → FlatIn a []
none_flat true = refl
none_flat false = tt

flat_row : (ds es : List Definition) → AreFlat ds → AreFlat es → AreFlat (ds ++ es)
flat_row [] es h k = k
flat_row (d ∷ ds) es h k = (h.0, flat_row ds es h.1 k)

both : (a : Bool) (ds es : List Definition) → FlatIn a ds → FlatIn a es → FlatIn a (ds ++ es)
both true ds es h k = ap (λ xs. xs ++ es) h ∙ k
both false ds es h k = flat_row ds es h k

mutual
  pub flat : (at : _) (b : Stmts) → Clear (findings at b) → FlatIn at.function (definitions b)
  flat at no_stmts h = none_flat at.function
  flat at (stmt f l k e rest) h =
      both at.function (definitions_in f k) (definitions rest) (flat_kind at f k (left (kind_findings at f k) (findings at rest) h)) (flat at rest (right (kind_findings at f k) (findings at rest) h))

  flat_kind : (at : _) (l : ℕ) (k : StmtKind) → Clear (kind_findings at l k) → FlatIn at.function (definitions_in l k)
  flat_kind at l (expr e) h = none_flat at.function
  flat_kind at l (assign ts e) h = none_flat at.function
  flat_kind at l (aug_assign t op e) h = none_flat at.function
  flat_kind at l pass h = none_flat at.function
  flat_kind at l break h = none_flat at.function
  flat_kind at l continue h = none_flat at.function
  flat_kind at l (return e) h = none_flat at.function
  flat_kind at l (raise e) h = none_flat at.function
  flat_kind at l (assert e w) h = none_flat at.function
  flat_kind at l (global xs) h = none_flat at.function
  flat_kind at l (import names) h = none_flat at.function
  flat_kind at l (from m names) h = none_flat at.function
  flat_kind at l (if' xs o) h =
      both at.function (arms_definitions xs) (opt_definitions o) (flat_arms at xs (left (arms_findings at xs) (opt_findings at o) h)) (flat_opt at o (right (arms_findings at xs) (opt_findings at o) h))
  flat_kind at l (while t (suite f g i b) o) h =
      both at.function (definitions b) (opt_definitions o) (flat (in_loop at) b (left (findings (in_loop at) b) (opt_findings at o) h)) (flat_opt at o (right (findings (in_loop at) b) (opt_findings at o) h))
  flat_kind at l (for t e (suite f g i b) o) h =
      both at.function (definitions b) (opt_definitions o) (flat (in_loop at) b (left (findings (in_loop at) b) (opt_findings at o) h)) (flat_opt at o (right (findings (in_loop at) b) (opt_findings at o) h))
  flat_kind at l (try (suite f g i b) cs o fin) h =
      let ends = opt_findings at o & opt_findings (in_finally at) fin in
      let more = clauses_findings at cs & ends in
      let later = right (findings at b) more h in
      let last = right (clauses_findings at cs) ends later in
      both at.function (definitions b) (clauses_definitions cs ++ (opt_definitions o ++ opt_definitions fin)) (flat at b (left (findings at b) more h))
      (both at.function (clauses_definitions cs) (opt_definitions o ++ opt_definitions fin) (flat_clauses at cs (left (clauses_findings at cs) ends later))
      (both at.function (opt_definitions o) (opt_definitions fin) (flat_opt at o (left (opt_findings at o) (opt_findings (in_finally at) fin) last)) (flat_opt (in_finally at) fin (right (opt_findings at o) (opt_findings (in_finally at) fin) last))))
  flat_kind at l (def x ps ds c (suite f g i b)) h =
      let inside = blame (has_repeats ps) (TwiceNamed l) & function_findings ps (suite f g i b) in
      let outside = not_blamed at.function (NestedFunction l) (left (blame at.function (NestedFunction l)) inside h) in
      let own = right (blame (has_repeats ps) (TwiceNamed l)) (function_findings ps (suite f g i b)) (right (blame at.function (NestedFunction l)) inside h) in
      let nested = flat function_place b (right (in_function ps b) (findings function_place b) own) in
      subst (λ a. FlatIn a (definitions_in l (def x ps ds c (suite f g i b)))) (sym outside) (nested, tt)
  flat_kind at l (match e last cs) h = flat_cases at cs h

  flat_opt : (at : _) (o : OptSuite) → Clear (opt_findings at o) → FlatIn at.function (opt_definitions o)
  flat_opt at no_suite h = none_flat at.function
  flat_opt at (has_suite (suite f g i b)) h = flat at b h

  flat_arms : (at : _) (xs : Arms) → Clear (arms_findings at xs) → FlatIn at.function (arms_definitions xs)
  flat_arms at no_arms h = none_flat at.function
  flat_arms at (arm t (suite f g i b) rest) h =
      both at.function (definitions b) (arms_definitions rest) (flat at b (left (findings at b) (arms_findings at rest) h)) (flat_arms at rest (right (findings at b) (arms_findings at rest) h))

  flat_clauses : (at : _) (cs : Clauses) → Clear (clauses_findings at cs) → FlatIn at.function (clauses_definitions cs)
  flat_clauses at no_clauses h = none_flat at.function
  flat_clauses at (clause k x (suite f g i b) rest) h =
      let inner = right (blame _ _) (findings (in_clause at) b & clauses_findings at rest) h in
      both at.function (definitions b) (clauses_definitions rest) (flat (in_clause at) b (left (findings (in_clause at) b) (clauses_findings at rest) inner)) (flat_clauses at rest (right (findings (in_clause at) b) (clauses_findings at rest) inner))

  flat_cases : (at : _) (cs : Cases) → Clear (cases_findings at cs) → FlatIn at.function (cases_definitions cs)
  flat_cases at no_cases h = none_flat at.function
  flat_cases at (case q g (suite f l i b) rest) h =
      let inner = right (blame_case f q _ _) (findings at b & cases_findings at rest) h in
      both at.function (definitions b) (cases_definitions rest) (flat at b (left (findings at b) (cases_findings at rest) inner)) (flat_cases at rest (right (findings at b) (cases_findings at rest) inner))
