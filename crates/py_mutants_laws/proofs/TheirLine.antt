-- A mutant does change the line that it stands at.
use Rattle.std.proofs.Common.{◌≡◌, ℕ, nat_eq, Bool, true, false, if◌then◌else◌, List, [], ◌∷◌, sym}
use Rattle.std.specs.List.{AllByRecursion}
use Rattle.std.proofs.lemmas.Bool.{eq-eqb}
use Rattle.std.proofs.lemmas.List.Elements.{All-from_recursion}
use Rattle.py_syntax.specs.Functions.{Function, functions, defining, is_string, without_docstring}
use Rattle.py_syntax.specs.Gathering.{gather}
use Rattle.py_syntax.specs.Marks.{body_marks}
use Rattle.py_syntax.specs.Tree.{Stmts, no_stmts, stmt, expr}
use Rattle.py_changes.specs.Changed.{also, same_defs, changed_body, changed_functions, changed_module}
use Rattle.py_changes.specs.Changes.{is_one_of}
use Rattle.py_changes.specs.Mutants.{module_mutants}
use Rattle.py_changes.specs.Regular.{all_statements, executed_in}
use Rattle.py_changes.proofs.Compared.{way}
use Rattle.py_changes.proofs.Lists.{all-left, all-right, all-weaker}
use Rattle.py_changes.proofs.Nested.{well_formed}
use Rattle.py_mutants_laws.specs.Mutants.{MutantsChangeTheirLine}
use Rattle.py_mutants_laws.proofs.Versions.{Rows}
use Rattle.py_mutants_laws.proofs.Fitting.{Tested, HaveTests}
use Rattle.py_mutants_laws.proofs.Functions.{functions-of}
use Rattle.py_mutants_laws.proofs.Lines.{On}
use Rattle.py_mutants_laws.proofs.Modules.{left-true, own-tests, module-only, defs-same}
use Rattle.py_mutants_laws.proofs.Mutants.{rows-mutants}
use Rattle.py_mutants_laws.proofs.Some.{IsSome, some-left, some-right, parts-some, marks-both}
use Rattle.py_mutants_laws.proofs.ShownBodies.{ArePlain, body-some}
use Rattle.py_mutants_laws.proofs.ShownParts.{ShowsRows}
use Rattle.py_mutants_laws.proofs.Shown.{rows-show}

-- a docstring has no `if`
led-tests : (a : Stmts) → HaveTests (gather all_statements (without_docstring a))
    → HaveTests (gather all_statements a)
led-tests no_stmts t = t
led-tests (stmt f b (expr e) x r) t = go (is_string e) t
  where
    go : (v : Bool) → HaveTests (gather all_statements (if v then r else stmt f b (expr e) x r))
        → HaveTests (gather all_statements (stmt f b (expr e) x r))
    go true u = (tt, u)
    go false u = u
led-tests (stmt f b k x r) t = t

plain-all : (fs : List Function) → HaveTests (executed_in fs)
    → AllByRecursion (λ f. functions f.body ≡ []) fs → ArePlain fs
unfolding functions
plain-all [] t h = tt
plain-all (f ∷ fs) t h =
    let own = gather all_statements (without_docstring f.body) in (
      record { tests = led-tests f.body (all-left Tested own (executed_in fs) t); inner = h.0 },
      plain-all fs (all-right Tested own (executed_in fs) t) h.1,
    )

as-gathered : (a : Stmts) → ArePlain (functions a) → ArePlain (gather defining a)
unfolding functions
as-gathered a h = h

as-functions : (a b : Stmts)
    → IsSome (changed_functions (gather defining a) (gather defining b)).0
    → IsSome (changed_functions (functions a) (functions b)).0
unfolding functions
as-functions a b h = h

module-some : (l : ℕ) (a b : Stmts) → Rows l a b → ShowsRows a b → IsSome (changed_module a b).0
module-some l a b h shows =
    parts-some (same_defs (functions a) (functions b))
    (also (changed_body a b) (changed_functions (functions a) (functions b)))
    (body_marks a, body_marks b)
    (defs-same l (functions a) (functions b) (functions-of l a b h))
    (way shows
    (λ x. some-left (changed_body a b).0 (changed_functions (functions a) (functions b)).0
    (body-some l a b h x))
    (λ x. some-right (changed_body a b).0 (changed_functions (functions a) (functions b)).0
    (as-functions a b x)))

one-of : (l : ℕ) (ls : List ℕ) → On l ls → IsSome ls → is_one_of l ls ≡ true
one-of l [] h s = absurd cc
one-of l (k ∷ ks) h s = left-true (nat_eq l k) (is_one_of l ks) (eq-eqb l k (sym h.0))

pub mutants_change_their_line : MutantsChangeTheirLine
mutants_change_their_line a t well =
    let all = gather all_statements (without_docstring a) in
    let plain =
    as-gathered a (plain-all (functions a) (all-right Tested all (executed_in (functions a)) t)
    (well_formed a well)) in
    All-from_recursion (λ x. is_one_of x.0.0 (changed_module a x.1).0 ≡ true) (module_mutants a)
    (all-weaker (λ x. Rows x.0.0 a x.1 × ShowsRows a x.1)
    (λ x. is_one_of x.0.0 (changed_module a x.1).0 ≡ true)
    (λ x h. one-of x.0.0 (changed_module a x.1).0 (module-only x.0.0 a x.1 h.0 t).0
    (module-some x.0.0 a x.1 h.0 h.1)) (module_mutants a)
    (marks-both (λ l b. Rows l a b) (λ l b. ShowsRows a b) (module_mutants a) (rows-mutants a)
    (rows-show a (led-tests a (own-tests 0 a t)) plain)))
