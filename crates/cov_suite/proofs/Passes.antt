-- An import and tests that pass, from the stores that a machine has.
use Rattle.std.proofs.Common.{◌≡◌, ℕ, ◌<◌, Bool, true, false, ◌&&◌, List, [], ◌∷◌, length, Result, Ok, Err, IfOk, refl, ap, sym, subst, ◌∙◌}
use Rattle.std.specs.List.{list_all}
use Rattle.cov_event.specs.declared.event.Event.{Event}
use Rattle.py_builtins.specs.World.{World}
use Rattle.py_code.specs.Programs as machine
use Rattle.py_code.specs.Programs.{first_world}
use Rattle.py_code.specs.Units.{Module}
use Rattle.py_compile.specs.Laws.{UnitsAreFaithful}
use Rattle.py_compile.specs.ProgramRuns.{AreFaithful}
use Rattle.py_meaning.specs.Modules.{LoadedModule}
use Rattle.py_syntax.specs.Tree.{Text}
use Rattle.py_compile_laws.specs.Traces.{AreWellFormed, TracesKept}
use Rattle.cov_suite.specs.declared.runs.Ended.{Ended}
use Rattle.cov_suite.specs.Passing.{has_passed, passes_in_code, passes, all_pass_in_code, all_pass}
use Rattle.cov_suite.specs.Recorded.{is_finished, ImportRan, TestRan}
use Rattle.cov_suite.specs.Results.{words, TestView, import_of_code, import_of}
use Rattle.cov_suite.proofs.Meaning.{same-import, same-result}

module _ {T : Type 0} (moves : T → Event → T → Type 0) (ms : List Module) (budget : ℕ) (before after : T) where
  -- a test on a copy of a world
  pub test-passes : (w v : World) (name : Text) (ended : Ended) (b : Bool) → b ≡ has_passed ended.end → w ≡ v → TestRan moves ms budget w name before after ended → b ≡ passes_in_code ms v budget name
  test-passes w v name ended b is same ran =
      is ∙ ap (λ (t : TestView). has_passed t.end) ran.result ∙ ap (λ (x : World). passes_in_code ms x budget name) same

  -- an import that didn't finish, and one that did
  pub none-passes : (w left : World) (names : List Text) (done : Bool) → w ≡ first_world ms words → done ≡ false → ImportRan moves ms budget w left before after done → false ≡ all_pass_in_code ms budget names
  none-passes w left names done same stops ran =
      let k = subst (λ (x : World). ImportRan moves ms budget x left before after done) same ran in
      ap (λ b. b && list_all (passes_in_code ms (import_of_code ms budget).world budget) names) (sym stops ∙ k.outcome)

  pub each-passes : (w left : World) (names : List Text) (done b : Bool) → w ≡ first_world ms words → done ≡ true → ImportRan moves ms budget w left before after done
      → b ≡ list_all (passes_in_code ms left budget) names → b ≡ all_pass_in_code ms budget names
  each-passes w left names done b same goes ran h =
      let k = subst (λ (x : World). ImportRan moves ms budget x left before after done) same ran in
      h ∙ ap (λ (x : World). list_all (passes_in_code ms x budget) names) (sym k.world)
      ∙ ap (λ t. t && list_all (passes_in_code ms (import_of_code ms budget).world budget) names) (sym goes ∙ k.outcome)

-- ---- by the trees

pub if-ok : {T E : Type 0} (P Q : T → Type 0) → ((x : T) → P x → Q x) → (r : Result T E) → IfOk r P → IfOk r Q
if-ok P Q f (Ok x) h = f x h
if-ok P Q f (Err e) h = tt

module _ (traces : TracesKept) (law : UnitsAreFaithful) (cs : List Module) (ms : List LoadedModule) (faithful : AreFaithful cs ms) (well : AreWellFormed ms) (some : 0 < length cs) (budget : ℕ) where
  same-tests-pass : (w : World) (names : List Text) → list_all (passes_in_code cs w budget) names ≡ list_all (passes ms w budget) names
  same-tests-pass w [] = refl
  same-tests-pass w (name ∷ names) = λ i. has_passed (same-result law traces cs ms faithful well some w budget name i).0.end && same-tests-pass w names i

  pub same-pass : (names : List Text) → all_pass_in_code cs budget names ≡ all_pass ms budget names
  same-pass names =
      ap (λ (r : machine.Run). is_finished r.outcome && list_all (passes_in_code cs r.world budget) names) (same-import law traces cs ms faithful well some budget)
      ∙ ap (λ b. is_finished (import_of ms budget).outcome && b) (same-tests-pass (import_of ms budget).world names)
