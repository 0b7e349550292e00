-- However a run ends, it wrote a first part of what its modules mean.
use Rattle.std.proofs.Common.{◌≡◌, ℕ, ◌<◌, List, [], ◌++◌, length, refl, sym, subst, append-nil}
use Rattle.cov_event.specs.declared.event.Event.{Event}
use Rattle.cov_outside.specs.Prefixes.{GainsPrefix}
use Rattle.cov_outside.proofs.PrefixLemmas.{gains_nothing, loses_nothing}
use Rattle.py_builtins.specs.Inputs.{Wrote}
use Rattle.py_builtins.specs.World.{World}
use Rattle.py_code.specs.declared.code.Programs.{Programs}
use Rattle.py_code.specs.Loaded.{modules_of}
use Rattle.py_code.specs.Programs as machine
use Rattle.py_code.specs.Slots.{by_slots}
use Rattle.py_compile.specs.ProgramRuns.{AreFaithful, as_run}
use Rattle.py_machine.specs.declared.outcome.Ran.{Ran}
use Rattle.py_machine.specs.Runs.{IsRun, StopsRun}
use Rattle.py_machine.specs.Told.{OnInput, OnInputUntil}
use Rattle.py_meaning.specs.Modules.{LoadedModule}
use Rattle.py_meaning.specs.Program.{run_modules}
use Rattle.py_syntax.specs.Tree.{Text}
use Rattle.py_compile_laws.specs.Traces.{AreWellFormed, TracesKept}
use Rattle.cov_measure.specs.Measuring.{GainsSome}
use Rattle.cov_measure.proofs.Meaning.{same-length}

gains-all : (old new whole : List ℕ) → new ≡ old ++ whole → GainsPrefix old new whole
gains-all old new whole e = record { front = whole; prefix = record { rest = []; is = sym (append-nil whole) }; is = e }

module _ (ms : List LoadedModule) (words : List Text) (budget : ℕ) (tells : Type 0) (before after : List ℕ) (said : Type 0) (o0 o1 : List ℕ) where
  abbrev Some : Type 0
  Some = OnInputUntil tells before after (λ all. GainsSome said o0 o1 (run_modules ms words all budget).out)

  pub nothing_yet : after ≡ before → o1 ≡ o0 → Some
  nothing_yet same none = record {
    heard = [];
    input = before;
    rest = before;
    fed = refl;
    told = λ t. (refl, loses_nothing before after same);
    holds = λ all rest fed. λ t. gains_nothing o0 o1 (run_modules ms words all budget).out none;
  }

  module _ (traces : TracesKept) (ps : Programs) (some : 0 < length (modules_of ps)) (faithful : AreFaithful (modules_of ps) ms) (well : AreWellFormed ms) (took : List Event → Type 0) where
    is_meant : (all : List ℕ) → machine.run (by_slots (modules_of ps)) (modules_of ps) (machine.first_world (modules_of ps) words) all budget ≡ as_run (run_modules ms words all budget)
    is_meant all = traces.runs (modules_of ps) ms faithful well (subst (λ n. 0 < n) (same-length (modules_of ps) ms faithful) some) words all budget

    one : (all : List ℕ) → StopsRun took said o0 o1 (modules_of ps) (machine.first_world (modules_of ps) words) budget all → GainsSome said o0 o1 (run_modules ms words all budget).out
    one all h t = subst (λ (r : machine.Run). GainsPrefix o0 o1 r.out) (is_meant all) (h.wrote t)

    pub stopped : (w : World) → w ≡ machine.first_world (modules_of ps) words → OnInputUntil tells before after (StopsRun took said o0 o1 (modules_of ps) w budget) → Some
    stopped w e given =
        let h = subst (λ x. OnInputUntil tells before after (StopsRun took said o0 o1 (modules_of ps) x budget)) e given in
        record { heard = h.heard; input = h.input; rest = h.rest; fed = h.fed; told = h.told; holds = λ all rest fed. one all (h.holds all rest fed) }

    -- a run that ended
    all : (ran : Ran) (left : World) (input rest : List ℕ) → IsRun took (Wrote said o0 o1) (modules_of ps) (machine.first_world (modules_of ps) words) budget ran left input rest
        → GainsSome said o0 o1 (run_modules ms words input budget).out
    all ran left input rest h t = gains-all o0 o1 (run_modules ms words input budget).out (subst (λ (r : machine.Run). Wrote said o0 o1 r.out) (is_meant input) h.written t)

    pub ended : (w left : World) (ran : Ran) → w ≡ machine.first_world (modules_of ps) words → OnInput tells before after (IsRun took (Wrote said o0 o1) (modules_of ps) w budget ran left) → Some
    ended w left ran e given =
        let h = subst (λ x. OnInput tells before after (IsRun took (Wrote said o0 o1) (modules_of ps) x budget ran left)) e given in
        record {
          heard = h.heard;
          input = h.input;
          rest = h.rest;
          fed = h.fed;
          told = λ t. ((h.told t).0, loses_nothing h.rest after (sym (h.told t).1));
          holds = λ input rest fed. all ran left input rest (h.holds input rest fed);
        }
