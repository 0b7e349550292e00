-- In a module without a fault of scope the functions that the check of scopes names are its `def`s.
use Rattle.std.proofs.Common.{◌≡◌, ℕ, Bool, true, false, List, [], ◌∷◌, ◌++◌, map, refl, sym, ap, ◌∙◌}
use Rattle.py_compile.specs.Definitions.{Definition, definitions, definitions_in, opt_definitions, arms_definitions, clauses_definitions, cases_definitions}
use Rattle.py_compile_module.specs.Scoped.{names_of_def}
use Rattle.py_scope.specs.declared.error.ScopeError.{ScopeError}
use Rattle.py_scope.specs.declared.error.ScopeError.TheVariants.{NestedFunction, TwiceNamed}
use Rattle.py_scope.specs.Faults.{Findings, ◌&◌, blame, blame_case, in_loop, in_clause, in_finally, function_place, module_place, in_function, in_module, names_of, findings, kind_findings, function_findings, opt_findings, arms_findings, clauses_findings, cases_findings, functions_of, IsWellFormed}
use Rattle.py_scope.specs.Patterns.{has_repeats}
use Rattle.py_scope.specs.Scopes.{Names}
use Rattle.py_syntax.specs.Tree.{Stmts, no_stmts, stmt, suite, OptSuite, no_suite, has_suite, Arms, no_arms, arm, Clauses, no_clauses, clause, Cases, no_cases, case, StmtKind, expr, assign, aug_assign, pass, break, continue, return, raise, assert, global, import, from, if', while, for, try, def, match}

-- no fault is found
abbrev Clear : Findings → Type 0
Clear f = f.faults ≡ []

front_none : (xs ys : List ScopeError) → xs ++ ys ≡ [] → xs ≡ []
front_none [] ys h = refl
front_none (x ∷ xs) ys h = cc

back_none : (xs ys : List ScopeError) → xs ++ ys ≡ [] → ys ≡ []
back_none [] ys h = h
back_none (x ∷ xs) ys h = cc

left : (f g : Findings) → Clear (f & g) → Clear f
left f g h = front_none f.faults g.faults h

right : (f g : Findings) → Clear (f & g) → Clear g
right f g h = back_none f.faults g.faults h

not_blamed : (b : Bool) (e : ScopeError) → Clear (blame b e) → b ≡ false
not_blamed true e h = cc
not_blamed false e h = refl

-- no `def` stands in a function
abbrev wanted : Bool → List Definition → List Names
wanted true ds = []
wanted false ds = map names_of_def ds

mapped : (ds es : List Definition) → map names_of_def (ds ++ es) ≡ map names_of_def ds ++ map names_of_def es
mapped [] es = refl
mapped (d ∷ ds) es = ap (λ ns. names_of_def d ∷ ns) (mapped ds es)

none_wanted : (a : Bool) → [] ≡ wanted a []
none_wanted true = refl
none_wanted false = refl

joined : (a : Bool) (ds es : List Definition) → wanted a ds ++ wanted a es ≡ wanted a (ds ++ es)
joined true ds es = refl
joined false ds es = sym (mapped ds es)

both : (a : Bool) (ds es : List Definition) (ns ms : List Names) → ns ≡ wanted a ds → ms ≡ wanted a es → ns ++ ms ≡ wanted a (ds ++ es)
both a ds es ns ms h k = ap (λ xs. xs ++ ms) h ∙ ap (λ xs. wanted a ds ++ xs) k ∙ joined a ds es

mutual
  told : (at : _) (b : Stmts) → Clear (findings at b) → (findings at b).functions ≡ wanted at.function (definitions b)
  told at no_stmts h = none_wanted at.function
  told at (stmt f l k e rest) h =
      both at.function (definitions_in f k) (definitions rest) (kind_findings at f k).functions (findings at rest).functions
      (told_kind at f k (left (kind_findings at f k) (findings at rest) h)) (told at rest (right (kind_findings at f k) (findings at rest) h))

  told_kind : (at : _) (l : ℕ) (k : StmtKind) → Clear (kind_findings at l k) → (kind_findings at l k).functions ≡ wanted at.function (definitions_in l k)
  told_kind at l (expr e) h = none_wanted at.function
  told_kind at l (assign ts e) h = none_wanted at.function
  told_kind at l (aug_assign t op e) h = none_wanted at.function
  told_kind at l pass h = none_wanted at.function
  told_kind at l break h = none_wanted at.function
  told_kind at l continue h = none_wanted at.function
  told_kind at l (return e) h = none_wanted at.function
  told_kind at l (raise e) h = none_wanted at.function
  told_kind at l (assert e w) h = none_wanted at.function
  told_kind at l (global xs) h = none_wanted at.function
  told_kind at l (import names) h = none_wanted at.function
  told_kind at l (from m names) h = none_wanted at.function
  told_kind at l (if' xs o) h =
      both at.function (arms_definitions xs) (opt_definitions o) (arms_findings at xs).functions (opt_findings at o).functions
      (told_arms at xs (left (arms_findings at xs) (opt_findings at o) h)) (told_opt at o (right (arms_findings at xs) (opt_findings at o) h))
  told_kind at l (while t (suite f g i b) o) h =
      both at.function (definitions b) (opt_definitions o) (findings (in_loop at) b).functions (opt_findings at o).functions
      (told (in_loop at) b (left (findings (in_loop at) b) (opt_findings at o) h)) (told_opt at o (right (findings (in_loop at) b) (opt_findings at o) h))
  told_kind at l (for t e (suite f g i b) o) h =
      both at.function (definitions b) (opt_definitions o) (findings (in_loop at) b).functions (opt_findings at o).functions
      (told (in_loop at) b (left (findings (in_loop at) b) (opt_findings at o) h)) (told_opt at o (right (findings (in_loop at) b) (opt_findings at o) h))
  told_kind at l (try (suite f g i b) cs o fin) h =
      let ends = opt_findings at o & opt_findings (in_finally at) fin in
      let more = clauses_findings at cs & ends in
      let later = right (findings at b) more h in
      let last = right (clauses_findings at cs) ends later in
      both at.function (definitions b) (clauses_definitions cs ++ (opt_definitions o ++ opt_definitions fin)) (findings at b).functions more.functions (told at b (left (findings at b) more h))
      (both at.function (clauses_definitions cs) (opt_definitions o ++ opt_definitions fin) (clauses_findings at cs).functions ends.functions (told_clauses at cs (left (clauses_findings at cs) ends later))
      (both at.function (opt_definitions o) (opt_definitions fin) (opt_findings at o).functions (opt_findings (in_finally at) fin).functions
      (told_opt at o (left (opt_findings at o) (opt_findings (in_finally at) fin) last)) (told_opt (in_finally at) fin (right (opt_findings at o) (opt_findings (in_finally at) fin) last))))
  told_kind at l (def x ps ds c (suite f g i b)) h =
      let inside = blame (has_repeats ps) (TwiceNamed l) & function_findings ps (suite f g i b) in
      let outside = not_blamed at.function (NestedFunction l) (left (blame at.function (NestedFunction l)) inside h) in
      let own = right (blame (has_repeats ps) (TwiceNamed l)) (function_findings ps (suite f g i b)) (right (blame at.function (NestedFunction l)) inside h) in
      let nested = told function_place b (right (in_function ps b) (findings function_place b) own) in
      ap (λ ns. names_of ps b ∷ ns) nested ∙ sym (ap (λ a. wanted a (definitions_in l (def x ps ds c (suite f g i b)))) outside)
  told_kind at l (match e last cs) h = told_cases at cs h

  told_opt : (at : _) (o : OptSuite) → Clear (opt_findings at o) → (opt_findings at o).functions ≡ wanted at.function (opt_definitions o)
  told_opt at no_suite h = none_wanted at.function
  told_opt at (has_suite (suite f g i b)) h = told at b h

  told_arms : (at : _) (xs : Arms) → Clear (arms_findings at xs) → (arms_findings at xs).functions ≡ wanted at.function (arms_definitions xs)
  told_arms at no_arms h = none_wanted at.function
  told_arms at (arm t (suite f g i b) rest) h =
      both at.function (definitions b) (arms_definitions rest) (findings at b).functions (arms_findings at rest).functions
      (told at b (left (findings at b) (arms_findings at rest) h)) (told_arms at rest (right (findings at b) (arms_findings at rest) h))

  told_clauses : (at : _) (cs : Clauses) → Clear (clauses_findings at cs) → (clauses_findings at cs).functions ≡ wanted at.function (clauses_definitions cs)
  told_clauses at no_clauses h = none_wanted at.function
  told_clauses at (clause k x (suite f g i b) rest) h =
      let inner = right (blame _ _) (findings (in_clause at) b & clauses_findings at rest) h in
      both at.function (definitions b) (clauses_definitions rest) (findings (in_clause at) b).functions (clauses_findings at rest).functions
      (told (in_clause at) b (left (findings (in_clause at) b) (clauses_findings at rest) inner)) (told_clauses at rest (right (findings (in_clause at) b) (clauses_findings at rest) inner))

  told_cases : (at : _) (cs : Cases) → Clear (cases_findings at cs) → (cases_findings at cs).functions ≡ wanted at.function (cases_definitions cs)
  told_cases at no_cases h = none_wanted at.function
  told_cases at (case q g (suite f l i b) rest) h =
      let inner = right (blame_case f q _ _) (findings at b & cases_findings at rest) h in
      both at.function (definitions b) (cases_definitions rest) (findings at b).functions (cases_findings at rest).functions
      (told at b (left (findings at b) (cases_findings at rest) inner)) (told_cases at rest (right (findings at b) (cases_findings at rest) inner))

-- the functions of a module without a fault are those of its `def`s
pub names_are : (b : Stmts) → IsWellFormed b → functions_of b ≡ map names_of_def (definitions b)
names_are b h = told module_place b (right (in_module b) (findings module_place b) h)
