-- An import and a test that ended and reached no changed line are the same under the new modules.
use Rattle.std.proofs.Common.{◌≡◌, ◌≢◌, ℕ, zero, suc, Bool, true, false, IsTrue, List, [], Ok, Err, refl, sym, ap, ◌∙◌, subst, None}
use Rattle.std.specs.Prelude.{if◌then◌else◌}
use Rattle.std.specs.List.{AllByRecursion}
use Rattle.py_value.specs.declared.value.FuncId.{FuncId}
use Rattle.py_value.specs.Plain.{PlainValue}
use Rattle.py_syntax.specs.Functions.{without_docstring}
use Rattle.py_syntax.specs.Marks.{body_marks}
use Rattle.py_syntax.specs.Tree.{Text}
use Rattle.py_builtins.specs.Faults.{name_unknown}
use Rattle.py_builtins.specs.Outcomes as outcomes
use Rattle.py_builtins.specs.Returns as returns
use Rattle.py_builtins.specs.World.{World, global_of}
use Rattle.py_meaning.specs.Calls.{enter}
use Rattle.py_meaning.specs.Computations.{State, Res, done, cut, Ans, bind, give, chain, tick, read, write, put}
use Rattle.py_meaning.specs.Frames.{in_frame, left_by, framed, begun, ended, in_unit, exec_unit, calls}
use Rattle.py_meaning.specs.Modules.{LoadedModule, body_of}
use Rattle.py_meaning.specs.Program.{run_of, first_world, at_rest, script_body, run_modules, answer_in, global_named, call_global, called}
use Rattle.py_meaning.specs.Activations.{no_items}
use Rattle.py_meaning.specs.Statements.{Out}
use Rattle.py_changes.specs.Changed.{is_empty, changed_module}
use Rattle.py_changes.proofs.Reached.{ReachOnly}
use Rattle.py_changes.proofs.Names.{or_raise_suits, global_suits}
use Rattle.py_changes.proofs.Results.{ResultSuits}
use Rattle.py_changes.proofs.Bodies.{marks-of-body, body-bad}
use Rattle.py_changes.proofs.Known.{Known, Versions}
use Rattle.py_changes.proofs.Units.{related}
use Rattle.py_changes.specs.Changes.{same_modules, all_fit, are_compared, changed_lines, is_one_of, IsUnchanged}
use Rattle.py_changes.specs.Laws.{UnchangedImport, UnchangedTest}
use Rattle.py_changes.specs.Regular.{MarksSomething, IsRegular}
use Rattle.py_changes.specs.Tests.{Test, request_of, imported, tested, is_changed}
use Rattle.py_changes.proofs.Kept.{Suit, WorldSuits}
use Rattle.py_changes.proofs.SameLaws.{both}
use Rattle.py_changes.proofs.Made.{module-made}
use Rattle.py_changes.proofs.Growth.{all-grow}
use Rattle.py_changes.proofs.Follows.{Held, Follows, follow-value, follow-asked}
use Rattle.py_changes.proofs.Compared.{Bad}
use Rattle.py_changes.proofs.Struck.{Dirty, Struck, struck-row}
use Rattle.py_changes.proofs.Expressions.{Related, Sides, follow-enter, follow-call_value}
use Rattle.py_changes.proofs.Modules.{name-of, imported-number, first-globals, fits-at, in-itself, first-suits}
use Rattle.py_changes.proofs.Unreached.{reach-only}

-- ---- runs and calls

module _ (Safe : ℕ → ℕ → Type 0) (K : FuncId → Type 0) (Q : Ans PlainValue → Type 0) (b : ℕ) where
  run-held : (r q : Res (Ans PlainValue)) → Held Safe K 0 Q r q
      → (run_of b r).outcome ≢ outcomes.cut → ReachOnly Safe 0 (run_of b r).items
      → (run_of b q ≡ run_of b r) × WorldSuits K (run_of b r).world
  run-held (done a t k) q h ne clean = let e = h clean in (ap (λ r. run_of b r) e.0, e.1.0)
  run-held (cut t) q h ne clean = absurd (ne refl)

  answer-held : (r q : Res (Ans PlainValue)) → Held Safe K 0 Q r q
      → (answer_in b r).returned ≢ returns.cut → ReachOnly Safe 0 (answer_in b r).items
      → answer_in b q ≡ answer_in b r
  answer-held (done a t k) q h ne clean = ap (λ r. answer_in b r) (h clean).0
  answer-held (cut t) q h ne clean = absurd (ne refl)

-- the modules are compared
module _ (old new : List LoadedModule) (e : IsTrue (are_compared old new))
    (regular : IsRegular old) where
  -- the lines that are not changed
  abbrev Safe : ℕ → ℕ → Type 0
  Safe = IsUnchanged old new

  -- the functions that are known
  abbrev K : FuncId → Type 0
  K = Known old new

  names : IsTrue (same_modules old new)
  names = (both (same_modules old new) (all_fit old new) e).0

  lines : (m : ℕ) → changed_lines old new m ≡ (changed_module (body_of old m) (body_of new m)).0
  lines m =
      ap (λ b.
      if b
      then (changed_module (body_of old m) (body_of new m)).0
      else body_marks (body_of old m)) e

  versions : (m : ℕ) → Versions Safe m (body_of old m) (body_of new m)
  versions m = record {
    fit = fits-at old new names (both (same_modules old new) (all_fit old new) e).1 m;
    changes =
        subst (λ ls. AllByRecursion (λ l. is_one_of l (changed_lines old new m) ≡ false → ⊥) ls)
        (lines m) (in-itself (changed_lines old new m));
    made = (module-made (body_of old m) (regular.tests m) (regular.defs m)).0;
    functions_made = (module-made (body_of old m) (regular.tests m) (regular.defs m)).1;
  }

  rel : (depth : ℕ) → Related Safe K old new (calls old depth) (calls new depth)
  rel depth =
      related Safe old new (name-of old new names) (imported-number old new names) versions depth

  -- both sides, with the body of the script
  abbrev sides : (depth : ℕ) → Sides Safe K
  sides depth = record {
    old = old;
    new = new;
    calls = calls old depth;
    others = calls new depth;
    related = rel depth;
    number = 0;
    names = [];
    other_names = [];
    same = λ x. refl;
  }

  follow-script : (b : ℕ) → Follows Safe K (Unit {0}) 0 (ResultSuits K (Suit K)) (script_body old b)
      (script_body new b)
  follow-script b = follow-enter ((rel (suc b)).bodies (Unit {0}) 0 0)

  follow-test : (x : Text) (b : ℕ)
      → Follows Safe K (Unit {0}) 0 (ResultSuits K (Suit K))
      (call_global old (record { number = 0; name = x; values = [] }) b)
      (call_global new (record { number = 0; name = x; values = [] }) b)
  follow-test x b =
      follow-value
      (follow-asked {Q = Suit K} (global_named 0 x)
      (λ w c kept. or_raise_suits K (name_unknown x) (global_of 0 x w.world) tt
      (global_suits K w.world kept.0 0 x)))
      (λ f. follow-call_value (sides (suc b)) f [] (λ c. (c.1, tt)))

  import-held : (t : Test) → (imported old t).outcome ≢ outcomes.cut
      → ReachOnly Safe 0 (imported old t).items
      → (imported new t ≡ imported old t) × WorldSuits K (imported old t).world
  unfolding run_modules
  import-held t ne clean =
      let b = t.import_budget in
      let start = at_rest (first_world old t.words) [] in
      let held = run-held Safe K (ResultSuits K (Suit K)) b (script_body old b start b)
      (script_body new b start b)
      (((follow-script b).run start b).1 tt (first-suits K old t.words, tt)) ne clean in (
        ap (λ gs. run_of b
            (script_body new b
            (at_rest (record {
              globals = gs;
              begun = [];
              heap = (first_world old t.words).heap;
              words = 0;
            }) []) b)) (sym (first-globals old new names)) ∙ held.0,
        held.1,
      )

  test-held : (t : Test) (w : World) → WorldSuits K w
      → (called old w [] (request_of t) t.budget).returned ≢ returns.cut
      → ReachOnly Safe 0 (called old w [] (request_of t) t.budget).items
      → called new w [] (request_of t) t.budget ≡ called old w [] (request_of t) t.budget
  unfolding called
  test-held t w kept ne clean =
      answer-held Safe K (ResultSuits K (Suit K)) t.budget _ _
      (((follow-test t.name t.budget).run (at_rest w []) t.budget).1 tt (kept, tt)) ne clean

-- ---- all marks are changed: then an import that ended reached one

module _ (Safe : ℕ → ℕ → Type 0) (ms : List LoadedModule)
    (bad : Bad Safe 0 (body_marks (body_of ms 0))) (some : MarksSomething (body_of ms 0)) where
  struck-body : (depth : ℕ)
      → Struck Safe 0 Out (exec_unit (calls ms depth) ms (record { «module» = 0; unit = 0 }))
  struck-body depth =
      struck-row Safe 0 (calls ms depth) ms (all-grow Safe ms depth) [] None
      (without_docstring (body_of ms 0)) (body-bad Safe 0 (body_of ms 0) bad)
      (subst (λ ls. is_empty ls ≡ false) (marks-of-body (body_of ms 0)) some)

  -- a module's body that ended with unsafe lines leaves an item with them
  dirty-ended : (a : Ans PlainValue) (s : State) (n : ℕ) → (ReachOnly Safe 0 s.items → ⊥)
      → Dirty Safe 0 (ended 0 a s n)
  unfolding give write
  dirty-ended (Ok v) s n h = h
  dirty-ended (Err e) s n h = h

  dirty-frame : (s : State) (r : Res Out) → Dirty Safe 0 r
      → Dirty Safe 0 (bind (left_by (record { «module» = 0; unit = 0 }) s r) (ended 0))
  dirty-frame s (done o t k) h = dirty-ended _ _ k (λ clean. h clean.1)
  dirty-frame s (cut t) h = tt

  struck-script : (b : ℕ) (w : World) (n : ℕ) → Dirty Safe 0 (script_body ms b (at_rest w []) n)
  unfolding enter read calls tick in_unit write chain framed Struck
  struck-script b w zero = tt
  struck-script b w (suc n) =
      let s : State = put (begun ms 0) (at_rest w []) in
      let inside : State = record { now = in_frame [] s.now; out = s.out; items = no_items } in
      dirty-frame s (exec_unit (calls ms b) ms (record { «module» = 0; unit = 0 }) inside n)
      (struck-body b inside n).1

  never-clean : (b : ℕ) (r : Res (Ans PlainValue)) → Dirty Safe 0 r
      → (run_of b r).outcome ≢ outcomes.cut → ReachOnly Safe 0 (run_of b r).items → ⊥
  never-clean b (done a t k) h ne clean = h clean
  never-clean b (cut t) h ne clean = ne refl

-- ---- the laws

not-compared : (old new : List LoadedModule) (t : Test) → are_compared old new ≡ false
    → MarksSomething (body_of old 0) → (imported old t).outcome ≢ outcomes.cut
    → ReachOnly (IsUnchanged old new) 0 (imported old t).items → ⊥
unfolding run_modules
not-compared old new t e some ne clean =
    let lines : changed_lines old new 0 ≡ body_marks (body_of old 0) =
    ap (λ b.
    if b then (changed_module (body_of old 0) (body_of new 0)).0 else body_marks (body_of old 0)) e
    in
    never-clean (IsUnchanged old new) old
    (subst (λ ls. AllByRecursion (λ l. is_one_of l (changed_lines old new 0) ≡ false → ⊥) ls) lines
    (in-itself (changed_lines old new 0))) some t.import_budget _
    (struck-script (IsUnchanged old new) old
    (subst (λ ls. AllByRecursion (λ l. is_one_of l (changed_lines old new 0) ≡ false → ⊥) ls) lines
    (in-itself (changed_lines old new 0))) some t.import_budget (first_world old t.words)
    t.import_budget) ne clean

import-case : (old new : List LoadedModule) (t : Test) (x : Bool) → are_compared old new ≡ x
    → IsRegular old → (imported old t).outcome ≢ outcomes.cut
    → ReachOnly (IsUnchanged old new) 0 (imported old t).items → imported new t ≡ imported old t
import-case old new t true e regular ne clean = (import-held old new e regular t ne clean).0
import-case old new t false e regular ne clean =
    absurd (not-compared old new t e regular.marks ne clean)

pub unchanged_import : UnchangedImport
unchanged_import old new t regular ne unreached =
    import-case old new t (are_compared old new) refl regular ne
    (reach-only (is_changed old new) 0 (imported old t).items unreached)

test-case : (old new : List LoadedModule) (t : Test) (x : Bool) → are_compared old new ≡ x
    → IsRegular old → (imported old t).outcome ≢ outcomes.cut
    → ReachOnly (IsUnchanged old new) 0 (imported old t).items
    → (tested old t).returned ≢ returns.cut
    → ReachOnly (IsUnchanged old new) 0 (tested old t).items → tested new t ≡ tested old t
test-case old new t true e regular ne clean ne' clean' =
    let i = import-held old new e regular t ne clean in
    ap (λ run. called new run.world [] (request_of t) t.budget) i.0
    ∙ test-held old new e regular t (imported old t).world i.1 ne' clean'
test-case old new t false e regular ne clean ne' clean' =
    absurd (not-compared old new t e regular.marks ne clean)

pub unchanged_test : UnchangedTest
unchanged_test old new t regular ne import ne' test =
    test-case old new t (are_compared old new) refl regular ne
    (reach-only (is_changed old new) 0 (imported old t).items import) ne'
    (reach-only (is_changed old new) 0 (tested old t).items test)
