-- What is judged by code is what the trees mean.
use Rattle.std.proofs.Common.{◌≡◌, inl, inr, ℕ, zero, suc, ◌<◌, nat_eq, Bool, true, false, ◌&&◌, ◌||◌, List, [], ◌∷◌, length, map, Contains, refl, ap, sym, subst, ◌∙◌, arith}
use Rattle.std.specs.List.{list_all}
use Rattle.std.specs.Prelude.{if◌then◌else◌}
use Rattle.std.proofs.lemmas.Bool.{false≢true, eqb-true, eq-eqb}
use Rattle.cov_mutate.specs.Code.{code_of, with_units, has_line, passed_names}
use Rattle.cov_mutate.proofs.Sources.{of_module}
use Rattle.cov_suite.specs.Passing.{passes, all_pass}
use Rattle.cov_suite.specs.Passing as suite
use Rattle.cov_suite.specs.Recorded.{is_finished}
use Rattle.cov_suite.specs.Results.{TestView, end_of, import_of, result_of_tree}
use Rattle.cov_suite.specs.Tests.{tests_of}
use Rattle.cov_suite.proofs.DataLines.{empty}
use Rattle.cov_verdicts.specs.Chosen.{test_of}
use Rattle.cov_verdicts.specs.Verdicts.{IsNoticed}
use Rattle.py_builtins.specs.Outcomes.{Outcome, finished, exited, raised, cut}
use Rattle.py_builtins.specs.Returns.{Returned, gave, raised as failed, cut as ran_out}
use Rattle.py_changes.specs.Tests.{tested, has_passed}
use Rattle.py_code.specs.Units.{Code, Module as CodeModule}
use Rattle.py_compile.specs.Definitions.{Definition, definitions}
use Rattle.py_compile.specs.Laws.{UnitsAreFaithful}
use Rattle.py_compile.specs.ProgramRuns.{HasFunctions, HasUnits, AreFaithful}
use Rattle.py_compile.specs.Units.{function_code, units_code}
use Rattle.py_meaning.specs.Modules.{LoadedModule, body_of}
use Rattle.py_mutants_laws.specs.Unreached.{with_body}
use Rattle.py_scope.specs.Faults.{IsWellFormed}
use Rattle.py_syntax.specs.Functions.{functions}
use Rattle.py_syntax.specs.Tree.{Text, Stmts}
use Rattle.py_compile_laws.specs.Traces.{AreWellFormed}

-- ---- code with the units of a mutant is code of the mutant

module _ (law : UnitsAreFaithful) where
  functions-faithful : (b : Stmts) (ds : List Definition) → HasFunctions (functions b) ds (map (function_code (functions b)) ds)
  functions-faithful b [] = tt
  functions-faithful b (d ∷ ds) = (law.function b d, functions-faithful b ds)

  units-faithful : (b : Stmts) → HasUnits b (units_code b)
  units-faithful b = (law.body b, functions-faithful b (definitions b))

  pub own-faithful : (ms : List LoadedModule) → AreFaithful (map code_of (map of_module ms)) ms
  own-faithful [] = tt
  own-faithful (m ∷ ms) = (refl, units-faithful m.body, own-faithful ms)

  pub mutant-faithful : (cs : List CodeModule) (ms : List LoadedModule) (m : ℕ) (b : Stmts) → AreFaithful cs ms → AreFaithful (with_units cs m (units_code b)) (with_body ms m b)
  mutant-faithful [] [] m b h = tt
  mutant-faithful [] (x ∷ ms) m b h = absurd h
  mutant-faithful (c ∷ cs) [] m b h = absurd h
  mutant-faithful (c ∷ cs) (x ∷ ms) zero b h = (h.0, units-faithful b, h.2)
  mutant-faithful (c ∷ cs) (x ∷ ms) (suc m) b h = (h.0, h.1, mutant-faithful cs ms m b h.2)

pub mutant-well : (ms : List LoadedModule) (m : ℕ) (b : Stmts) → AreWellFormed ms → IsWellFormed b → AreWellFormed (with_body ms m b)
mutant-well [] m b h w = tt
mutant-well (x ∷ ms) zero b h w = (w, h.1)
mutant-well (x ∷ ms) (suc m) b h w = (h.0, mutant-well ms m b h.1 w)

pub well-at : (ms : List LoadedModule) (m : ℕ) → m < length ms → AreWellFormed ms → IsWellFormed (body_of ms m)
well-at [] m lt h = absurd (omega arith)
well-at (x ∷ ms) zero lt h = h.0
well-at (x ∷ ms) (suc m) lt h = well-at ms m (omega (arith, lt)) h.1

pub some-units : (cs : List CodeModule) (m : ℕ) (us : List Code) → 0 < length cs → 0 < length (with_units cs m us)
some-units [] m us lt = lt
some-units (c ∷ cs) zero us lt = omega arith
some-units (c ∷ cs) (suc m) us lt = omega arith

pub code-length : (ms : List LoadedModule) → length (map code_of (map of_module ms)) ≡ length ms
code-length [] = refl
code-length (m ∷ ms) = ap suc (code-length ms)

-- ---- lines

line-here : (k l : ℕ) (ks : List ℕ) (b : Bool) → nat_eq k l ≡ b → (b || has_line ks l) ≡ true → (has_line ks l ≡ true → Contains ks l) → Contains (k ∷ ks) l
line-here k l ks true e t rest = (0, omega arith, eqb-true k l e)
line-here k l ks false e t rest = let at = rest t in (suc at.0, omega (arith, at.1), at.2)

pub line-there : (lines : List ℕ) (l : ℕ) → has_line lines l ≡ true → Contains lines l
line-there [] l h = absurd (false≢true h)
line-there (k ∷ ks) l h = line-here k l ks (nat_eq k l) refl h (line-there ks l)

or-right : (b : Bool) → (b || true) ≡ true
or-right true = refl
or-right false = refl

pub has-there : (lines : List ℕ) (l : ℕ) → Contains lines l → has_line lines l ≡ true
has-there [] l at = absurd (empty at)
has-there (k ∷ ks) l (zero, lt, e) = ap (λ b. b || has_line ks l) (eq-eqb k l e)
has-there (k ∷ ks) l (suc i, lt, e) = ap (λ b. nat_eq k l || b) (has-there ks l (i, omega (arith, lt), e)) ∙ or-right (nat_eq k l)

-- ---- tests that passed

same-passed : (r : Returned) → suite.has_passed (end_of r) ≡ has_passed r
same-passed (gave v) = refl
same-passed (failed kind text) = refl
same-passed ran_out = refl

is-finished : (o : Outcome) → is_finished o ≡ true → o ≡ finished
is-finished finished h = refl
is-finished (exited status text) h = absurd (false≢true h)
is-finished (raised kind text) h = absurd (false≢true h)
is-finished cut h = absurd (false≢true h)

module _ (ms : List LoadedModule) (budget : ℕ) where
  -- a test that passes is one that passed
  passes-is : (name : Text) → passes ms (import_of ms budget).world budget name ≡ has_passed (tested ms (test_of budget name)).returned
  passes-is name = same-passed (tested ms (test_of budget name)).returned

  abbrev pub views : List Text → List TestView
  views names = map (λ t. t.0) (map (result_of_tree ms (import_of ms budget).world budget) names)

  abbrev Passed : Text → Type 0
  Passed name = has_passed (tested ms (test_of budget name)).returned ≡ true

  with-own : (n name : Text) (names : List Text) (b : Bool) → passes ms (import_of ms budget).world budget n ≡ b → Contains (if b then n ∷ passed_names (views names) else passed_names (views names)) name
      → (Contains (passed_names (views names)) name → Contains names name × Passed name) → Contains (n ∷ names) name × Passed name
  with-own n name names false e at rest = let h = rest at in ((suc h.0.0, omega (arith, h.0.1), h.0.2), h.1)
  with-own n name names true e (zero, lt, same) rest = ((0, omega arith, same), subst (λ (x : Text). Passed x) same (sym (passes-is n) ∙ e))
  with-own n name names true e (suc k, lt, same) rest = let h = rest (k, omega (arith, lt), same) in ((suc h.0.0, omega (arith, h.0.1), h.0.2), h.1)

  has-passed : (names : List Text) (name : Text) → Contains (passed_names (views names)) name → Contains names name × Passed name
  has-passed [] name at = absurd (empty at)
  has-passed (n ∷ names) name at = with-own n name names (passes ms (import_of ms budget).world budget n) refl at (has-passed names name)

  in-own : (n name : Text) (names : List Text) (b : Bool) → passes ms (import_of ms budget).world budget n ≡ b → Passed name → Contains (n ∷ names) name
      → (Contains names name → Contains (passed_names (views names)) name) → Contains (if b then n ∷ passed_names (views names) else passed_names (views names)) name
  in-own n name names true e h (zero, lt, same) rest = (0, omega arith, same)
  in-own n name names true e h (suc k, lt, same) rest = let at = rest (k, omega (arith, lt), same) in (suc at.0, omega (arith, at.1), at.2)
  in-own n name names false e h (zero, lt, same) rest = absurd (false≢true (sym e ∙ passes-is n ∙ subst (λ (x : Text). Passed x) (sym same) h))
  in-own n name names false e h (suc k, lt, same) rest = rest (k, omega (arith, lt), same)

  is-passed : (names : List Text) (name : Text) → Contains names name → Passed name → Contains (passed_names (views names)) name
  is-passed [] name at h = absurd (empty at)
  is-passed (n ∷ names) name at h = in-own n name names (passes ms (import_of ms budget).world budget n) refl h at (λ k. is-passed names name k h)

-- one of a list for which a test fails
module _ {X : Type 0} (p : X → Bool) where
  true-here : (y x : X) (xs : List X) (b : Bool) → p y ≡ b → (b && list_all p xs) ≡ true → Contains (y ∷ xs) x → (list_all p xs ≡ true → Contains xs x → p x ≡ true) → p x ≡ true
  true-here y x xs true e h (zero, lt, same) rest = subst (λ z. p z ≡ true) same e
  true-here y x xs true e h (suc k, lt, same) rest = rest h (k, omega (arith, lt), same)
  true-here y x xs false e h at rest = absurd (false≢true h)

  all-true : (xs : List X) → list_all p xs ≡ true → (x : X) → Contains xs x → p x ≡ true
  all-true [] h x at = absurd (empty at)
  all-true (y ∷ xs) h x at = true-here y x xs (p y) refl h at (λ k there. all-true xs k x there)

  abbrev OneFails : List X → Type 0
  OneFails xs = (x : X) × Contains xs x × (p x ≡ false)

  false-here : (y : X) (xs : List X) (b : Bool) → p y ≡ b → (b && list_all p xs) ≡ false → (list_all p xs ≡ false → OneFails xs) → OneFails (y ∷ xs)
  false-here y xs true e h rest = let t = rest h in (t.0, (suc t.1.0, omega (arith, t.1.1), t.1.2), t.2)
  false-here y xs false e h rest = (y, (0, omega arith, refl), e)

  one-false : (xs : List X) → list_all p xs ≡ false → OneFails xs
  one-false [] h = absurd (false≢true (sym h))
  one-false (y ∷ xs) h = false-here y xs (p y) refl h (one-false xs)

-- ---- what the tests notice

module _ (budget : ℕ) (ms changed : List LoadedModule) (names : List Text) (are : names ≡ passed_names (views ms budget (tests_of ms))) where
  pub noticed : all_pass changed budget names ≡ false → IsNoticed budget ms changed
  noticed h = go (is_finished (import_of changed budget).outcome) refl h
    where
      go : (b : Bool) → is_finished (import_of changed budget).outcome ≡ b → (b && list_all (passes changed (import_of changed budget).world budget) names) ≡ false → IsNoticed budget ms changed
      go false e h = inl (λ ended. false≢true (sym e ∙ ap is_finished ended))
      go true e h =
          let one = one-false (passes changed (import_of changed budget).world budget) names h in
          let was = has-passed ms budget (tests_of ms) one.0 (subst (λ (ns : List Text). Contains ns one.0) are one.1) in
          inr (one.0, was.0, was.1, sym (passes-is changed budget one.0) ∙ one.2)

  pub unnoticed : all_pass changed budget names ≡ true → IsNoticed budget ms changed → ⊥
  unnoticed h = go (is_finished (import_of changed budget).outcome) refl h
    where
      go : (b : Bool) → is_finished (import_of changed budget).outcome ≡ b → (b && list_all (passes changed (import_of changed budget).world budget) names) ≡ true → IsNoticed budget ms changed → ⊥
      go false e h n = false≢true h
      go true e h (inl ne) = ne (is-finished (import_of changed budget).outcome e)
      go true e h (inr (name, at, was, is)) =
          false≢true (sym is ∙ sym (passes-is changed budget name)
          ∙ all-true (passes changed (import_of changed budget).world budget) names h name (subst (λ (ns : List Text). Contains ns name) (sym are) (is-passed ms budget (tests_of ms) name at was)))
