-- A script that marks no line does nothing, and has no tests. So no change of another module is
-- noticed.
use Rattle.std.proofs.Common.{◌≡◌, ℕ, zero, suc, nat_eq, Bool, true, false, List, [], ◌∷◌, ◌++◌, map, Contains, Ok, pos, negsuc, refl, ap, sym, subst, ◌∙◌, arith}
use Rattle.std.specs.Prelude.{◌≢◌, if◌then◌else◌}
use Rattle.std.proofs.lemmas.Bool.{false≢true, eqb-true}
use Rattle.cov_event.specs.declared.event.CodeId.{CodeId}
use Rattle.py_value.specs.Plain.{PlainValue, none_value}
use Rattle.py_builtins.specs.Outcomes.{finished}
use Rattle.py_builtins.specs.World.{World}
use Rattle.py_syntax.specs.Functions.{is_string, without_docstring, functions, defining}
use Rattle.py_syntax.specs.Gathering.{gather}
use Rattle.py_syntax.specs.Marks.{stmts_marks, body_marks}
use Rattle.py_syntax.specs.Tree.{Text, Stmts, no_stmts, stmt, suite, no_suite, has_suite, no_arms, arm, expr, global, if'}
use Rattle.py_meaning.specs.Activations.{activation, Items, no_items, more, sub, arcs_of, arcs_so_far}
use Rattle.py_meaning.specs.Calls.{Calls, enter}
use Rattle.py_meaning.specs.Computations.{State, Res, done, Ans, bind, put, give, chain, tick, read, write}
use Rattle.py_meaning.specs.Crossings.{Crossing, crossing, activations, activations_from, crossings_of}
use Rattle.py_meaning.specs.Frames.{in_frame, back_in, left_by, framed, begun, ended, in_unit, exec_unit, place_of, calls}
use Rattle.py_meaning.specs.Modules.{LoadedModule, body_of, unit_of}
use Rattle.py_meaning.specs.Places.{Place}
use Rattle.py_meaning.specs.Program.{run_of, first_world, at_rest, script_body, run_modules}
use Rattle.py_meaning.specs.Statements.{Out, normal, next, exec, exec_kind, exec_opt, exec_arms}
use Rattle.py_changes.specs.Changed.{is_empty}
use Rattle.py_changes.specs.Paths.{HasReached}
use Rattle.py_changes.proofs.Bodies.{marks-of-body}
use Rattle.cov_suite.specs.Results.{words, import_of}
use Rattle.cov_suite.specs.Tests.{test_names, tests_of}
use Rattle.cov_hook_laws.specs.MeantHooks.{name_of}
use Rattle.cov_suite.proofs.DataLines.{empty}

-- ---- lists that are empty

left-empty : (xs ys : List ℕ) → is_empty (xs ++ ys) ≡ true → is_empty xs ≡ true
left-empty [] ys h = refl
left-empty (x ∷ xs) ys h = h

right-empty : (xs ys : List ℕ) → is_empty (xs ++ ys) ≡ true → is_empty ys ≡ true
right-empty [] ys h = h
right-empty (x ∷ xs) ys h = absurd (false≢true h)

-- ---- statements that mark nothing

module _ (c : Calls) (p : Place) where
  quiet-row : (a : Stmts) → is_empty (stmts_marks a) ≡ true → (s : State) (n : ℕ) → exec c p a s n ≡ done normal s n
  unfolding exec exec_kind exec_opt exec_arms chain give
  quiet-row no_stmts h s n = refl
  quiet-row (stmt l a (global xs) e r) h s n = quiet-row r h s n
  quiet-row (stmt l a (if' no_arms no_suite) e r) h s n = quiet-row r h s n
  quiet-row (stmt l a (if' no_arms (has_suite (suite f g i b))) e r) h s n =
      ap (λ (x : Res Out). bind x (λ o. next o (exec c p r))) (quiet-row b (left-empty (stmts_marks b) (stmts_marks r) h) s n)
      ∙ quiet-row r (right-empty (stmts_marks b) (stmts_marks r) h) s n
  quiet-row (stmt l a (if' (arm t (suite f g i b) q) o) e r) h s n = absurd (false≢true h)
  quiet-row a h s n = absurd (false≢true h)

quiet-defs : (a : Stmts) → is_empty (stmts_marks a) ≡ true → gather defining a ≡ []
quiet-defs no_stmts h = refl
quiet-defs (stmt l a (global xs) e r) h = quiet-defs r h
quiet-defs (stmt l a (if' no_arms no_suite) e r) h = quiet-defs r h
quiet-defs (stmt l a (if' no_arms (has_suite (suite f g i b))) e r) h =
    ap (λ fs. fs ++ gather defining r) (quiet-defs b (left-empty (stmts_marks b) (stmts_marks r) h)) ∙ quiet-defs r (right-empty (stmts_marks b) (stmts_marks r) h)
quiet-defs (stmt l a (if' (arm t (suite f g i b) q) o) e r) h = absurd (false≢true h)
quiet-defs a h = absurd (false≢true h)

-- a body with a docstring, too
body-defs : (a : Stmts) → is_empty (body_marks a) ≡ true → gather defining a ≡ []
body-defs no_stmts h = refl
body-defs (stmt l b (expr e) f r) h = go (is_string e) h
  where
    go : (x : Bool) → is_empty (if x then stmts_marks r else (l ∷ stmts_marks r)) ≡ true → gather defining r ≡ []
    go true k = quiet-defs r k
    go false k = absurd (false≢true k)
body-defs a h = quiet-defs a h

-- ---- the script

-- the body of the script
abbrev script : CodeId
script = record { «module» = 0; unit = 0 }

-- what happens where it does nothing
abbrev alone : Items
alone = more no_items (sub (activation script no_items true))

module _ (ms : List LoadedModule) (quiet : is_empty (body_marks (body_of ms 0)) ≡ true) where
  quiet-body : (k : ℕ) (s : State) (n : ℕ) → exec_unit (calls ms k) ms script s n ≡ done normal s n
  quiet-body k s n = quiet-row (calls ms k) (place_of ms script) (without_docstring (body_of ms 0)) (ap is_empty (sym (marks-of-body (body_of ms 0))) ∙ quiet) s n

  quiet-script : (k n : ℕ) (w : World) → (s : State) × (script_body ms k (at_rest w []) (suc n) ≡ done (Ok none_value) s n) × (s.items ≡ alone)
  unfolding enter read calls tick in_unit write chain framed give
  quiet-script k n w =
      let before : State = put (begun ms 0) (at_rest w []) in
      let inside : State = record { now = in_frame [] before.now; out = before.out; items = no_items } in (
        record { now = back_in before.now inside.now; out = before.out; items = alone },
        ap (λ (r : Res Out). bind (left_by script before r) (ended 0)) (quiet-body k inside n),
        refl,
      )

  -- within a budget, the import finishes
  pub quiet-ends : (n : ℕ) → (import_of ms (suc n)).outcome ≡ finished
  unfolding run_modules
  quiet-ends n =
      let q = quiet-script (suc n) n (first_world ms words) in
      ap (λ (r : Res (Ans PlainValue)). (run_of (suc n) r).outcome) q.1

  quiet-items : (n : ℕ) → (import_of ms (suc n)).items ≡ alone
  unfolding run_modules
  quiet-items n =
      let q = quiet-script (suc n) n (first_world ms words) in
      ap (λ (r : Res (Ans PlainValue)). (run_of (suc n) r).items) q.1 ∙ q.2

  -- in another module nothing happens
  elsewhere : (m : ℕ) (b : Bool) (xs : List Crossing) (c : Crossing) → nat_eq 0 m ≡ b → b ≡ false → Contains (if b then xs else []) c → ⊥
  elsewhere m true xs c e never at = false≢true (sym never)
  elsewhere m false xs c e never at = empty at

  other : (m : ℕ) (b : Bool) → nat_eq 0 (suc m) ≡ b → b ≡ false
  other m true e = let same : 0 ≡ suc m = eqb-true 0 (suc m) e in absurd (omega arith)
  other m false e = refl

  alone-nothing : (path : Text) (l : ℕ) → HasReached ms alone path l → ⊥
  unfolding activations activations_from crossings_of arcs_of arcs_so_far
  alone-nothing path l (zero, c, there, (zero, lt, e), to) = let outside : negsuc 0 ≡ pos l = ap (λ (z : Crossing). z.to) e ∙ to in cc
  alone-nothing path l (zero, c, there, (suc k, lt, e), to) = absurd (omega (arith, lt))
  alone-nothing path l (suc m, c, there, at, to) =
      elsewhere (suc m) (nat_eq 0 (suc m)) (map (crossing (unit_of ms script).line) (arcs_of (activation script no_items true)) ++ []) c refl (other m (nat_eq 0 (suc m)) refl) at

  -- it reaches nothing
  pub quiet-import : (n : ℕ) (path : Text) (l : ℕ) → HasReached ms (import_of ms (suc n)).items path l → ⊥
  quiet-import n path l h = alone-nothing path l (subst (λ (items : Items). HasReached ms items path l) (quiet-items n) h)

-- without a budget, no import finishes
pub cut-at-once : (ms : List LoadedModule) → (import_of ms 0).outcome ≢ finished
unfolding run_modules enter read calls tick
cut-at-once ms h = cc

-- a script that marks nothing has no tests
pub quiet-tests : (ms : List LoadedModule) → is_empty (body_marks (body_of ms 0)) ≡ true → tests_of ms ≡ []
unfolding functions
quiet-tests [] h = refl
quiet-tests (m ∷ ms) h = ap (λ fs. test_names (map name_of fs)) (body-defs m.body h)
