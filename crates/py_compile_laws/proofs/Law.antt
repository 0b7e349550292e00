-- The laws for modules that the check of scopes accepts.
use Rattle.std.proofs.Common.{◌≡◌, ◌≢◌, ◌<◌, ◌≤◌, ℕ, List, [], ◌∷◌, length, ap, sym, subst, ◌∙◌}
use Rattle.py_builtins.specs.Outcomes as outcomes
use Rattle.py_builtins.specs.Returns as returns
use Rattle.py_builtins.specs.World.{World}
use Rattle.py_code.specs.Programs as machine
use Rattle.py_code.specs.Slots.{by_slots}
use Rattle.py_code.specs.Units.{Module}
use Rattle.py_compile.proofs.ProgramLaw.{programs_run}
use Rattle.py_compile.specs.ProgramRuns.{AreFaithful, AreProperModules, HaveOwnParameters, Settles, as_run, as_reply, as_request}
use Rattle.py_meaning.proofs.ProgramLaws.{modules_budget, call_budget}
use Rattle.py_meaning.specs.Modules.{LoadedModule}
use Rattle.py_meaning.specs.Program as meant
use Rattle.py_scope.specs.Faults.{module_place, late_globals, findings}
use Rattle.py_scope.specs.Occurrences.{occurrences}
use Rattle.py_syntax.specs.Tree.{Text}
use Rattle.py_compile_laws.specs.Traces.{AreWellFormed, ScopesAreProper, SettlesReply, TracesKept}
use Rattle.py_compile_laws.proofs.Bodies.{proper-body, each}
use Rattle.py_compile_laws.proofs.Nothing.{back-none}

are-proper : (ms : List LoadedModule) → AreWellFormed ms → AreProperModules ms
are-proper [] h = tt
are-proper (l ∷ ls) h =
    let clear = back-none (late_globals [] (occurrences l.body)) (findings module_place l.body).faults h.0 in
    (proper-body module_place l.body clear, (each module_place l.body clear).0, are-proper ls h.1)

have-own : (ms : List LoadedModule) → AreWellFormed ms → HaveOwnParameters ms
have-own [] h = tt
have-own (l ∷ ls) h =
    let clear = back-none (late_globals [] (occurrences l.body)) (findings module_place l.body).faults h.0 in
    ((each module_place l.body clear).1, have-own ls h.1)

pub premises : ScopesAreProper
premises = record { proper = are-proper; parameters = have-own }

module _ (cs : List Module) (ms : List LoadedModule) (faithful : AreFaithful cs ms) (well : AreWellFormed ms) where
  runs : 0 < length ms → (words : List Text) (input : List ℕ) (budget : ℕ) → machine.run (by_slots cs) cs (machine.first_world cs words) input budget ≡ as_run (meant.run_modules ms words input budget)
  runs some words input budget = programs_run.runs_by_slots cs ms faithful (are-proper ms well) (have-own ms well) some words input budget

  calls : (w : World) (input : List ℕ) (q : meant.Request) (budget : ℕ) → machine.called (by_slots cs) cs w input (as_request q) budget ≡ as_reply (meant.called ms w input q budget)
  calls w input q budget = programs_run.calls_by_slots cs ms faithful (are-proper ms well) (have-own ms well) w input q budget

  runs-settle : 0 < length ms → (words : List Text) (input : List ℕ) (budget other : ℕ) → (machine.run (by_slots cs) cs (machine.first_world cs words) input budget).outcome ≢ outcomes.cut
      → Settles (machine.run (by_slots cs) cs (machine.first_world cs words) input budget) other (machine.run (by_slots cs) cs (machine.first_world cs words) input other)
  runs-settle some words input budget other uncut =
      let here = runs some words input budget in
      let there = runs some words input other in
      let means = modules_budget ms words input budget other (λ e. uncut (ap (λ r. r.outcome) here ∙ e)) in (
        λ le. there ∙ (ap as_run (means.0 (subst (λ r. r.steps ≤ other) here le)) ∙ sym here),
        λ lt. ap (λ r. r.outcome) there ∙ means.1 (subst (λ r. other < r.steps) here lt),
      )

  calls-settle : (w : World) (input : List ℕ) (q : meant.Request) (budget other : ℕ) → (machine.called (by_slots cs) cs w input (as_request q) budget).returned ≢ returns.cut
      → SettlesReply (machine.called (by_slots cs) cs w input (as_request q) budget) other (machine.called (by_slots cs) cs w input (as_request q) other)
  calls-settle w input q budget other uncut =
      let here = calls w input q budget in
      let there = calls w input q other in
      let means = call_budget ms w input q budget other (λ e. uncut (ap (λ r. r.returned) here ∙ e)) in (
        λ le. there ∙ (ap as_reply (means.0 (subst (λ r. r.steps ≤ other) here le)) ∙ sym here),
        λ lt. ap (λ r. r.returned) there ∙ means.1 (subst (λ r. other < r.steps) here lt),
      )

pub law : TracesKept
law = record {
  runs = λ cs ms faithful well some words input budget. runs cs ms faithful well some words input budget;
  calls = λ cs ms faithful well w input q budget. calls cs ms faithful well w input q budget;
  runs_by_names = λ cs ms faithful well some words input budget. programs_run.runs_by_names cs ms faithful (are-proper ms well) some words input budget;
  calls_by_names = λ cs ms faithful well w input q budget. programs_run.calls_by_names cs ms faithful (are-proper ms well) w input q budget;
  runs_settle = λ cs ms faithful well some words input budget other uncut. runs-settle cs ms faithful well some words input budget other uncut;
  calls_settle = λ cs ms faithful well w input q budget other uncut. calls-settle cs ms faithful well w input q budget other uncut;
}
