-- What was measured, as a plain answer.
use Rattle.std.proofs.Common.{◌≡◌, Bool, List, Option, Result, Ok, Err, Vec, IfOk, OnErr, ap, subst, ◌∙◌}
use Rattle.std.specs.Global.{Global}
use Rattle.std.specs.Prelude.{IsErrOf}
use Rattle.cov_event.specs.declared.ask.Ask.{Ghosts as HookOf}
use Rattle.cov_event.specs.declared.event.Event.{Event}
use Rattle.cov_contexts.specs.declared.plugins.Plugin.{Ghosts as PluginOf}
use Rattle.cov_contexts.specs.Sources.{Sources}
use Rattle.cov_outside.specs.declared.sink.Sink.{Ghosts as SinkOf}
use Rattle.cov_outside.specs.declared.source.Source.{Ghosts as SourceOf}
use Rattle.py_builtins.specs.declared.fault.RunFault.{RunFault}
use Rattle.py_builtins.specs.Inputs.{Wrote}
use Rattle.py_machine.specs.Told.{OnInput}
use Rattle.py_meaning.specs.Modules.{LoadedModule}
use Rattle.py_meaning.specs.Program.{run_modules}
use Rattle.cov_hook_laws.specs.MeantHooks.{MeantHook}
use Rattle.cov_recorder.specs.Plan.{Plan}
use Rattle.cov_measure.specs.declared.request.Measured.{Measured}
use Rattle.cov_measure.specs.Measures.{sources_of, MeasuredAs}
use Rattle.cov_measure.specs.Requests.{Asked, Ended, plain_measured, plain_answer}
use Rattle.cov_measure.specs.Told.{WasRefused}

pub if-plain : (r : Result Measured RunFault) (P : Ended → Type 0) → IfOk r (λ m. P (plain_measured m)) → IfOk (plain_answer r) P
if-plain (Ok m) P h = h
if-plain (Err e) P h = tt

pub on-plain : (r : Result Measured RunFault) (P : Type 0) → OnErr r P → OnErr (plain_answer r) P
on-plain (Ok m) P h = tt
on-plain (Err e) P h = h

pub is-plain : (r : Result Measured RunFault) (fault : RunFault) → IsErrOf (plain_answer r) fault → IsErrOf r fault
is-plain (Ok m) fault h = cc
is-plain (Err e) fault h = cc

-- ---- the sources of labels that were made of a hook and of plugins

pub lent-sources : {A P : Type 0} (hook : Option A) (lent plugins : Vec P Global) (by_name : Bool) → lent ≡ plugins → (s : Sources A P) → s ≡ sources_of hook lent.items by_name → s ≡ sources_of hook plugins.items by_name
lent-sources {A} {P} hook lent plugins by_name e s is = is ∙ ap (λ (v : Vec P Global). sources_of hook v.items by_name) e

module _ {I O P : Type 0} (source : SourceOf I) (sink : SinkOf O) (plugin : PluginOf P) (asked : Asked) (ms : List LoadedModule) (i0 i1 : I) (o0 o1 : O) (plugins : List P) where
  abbrev EndsSo : Sources MeantHook P → Ended → Type 0
  EndsSo old m =
      OnInput source.tells (source.left i0) (source.left i1)
      (λ all rest. MeasuredAs plugin asked ms old (run_modules ms asked.words all asked.budget) m plugins (Wrote sink.tells (sink.contents o0) (sink.contents o1)) rest)

  pub ended-so : (r : Result Measured RunFault) (old new : Sources MeantHook P) → old ≡ new → IfOk r (λ m. EndsSo old (plain_measured m)) → IfOk (plain_answer r) (EndsSo new)
  ended-so r old new e h = if-plain r (EndsSo new) (subst (λ s. IfOk r (λ m. EndsSo s (plain_measured m))) e h)

pub refused-so : {A P : Type 0} (hook : HookOf A) (plugin : PluginOf P) (plan : Plan) (old new : Sources A P) → old ≡ new → (nothing : Type 0) (told : List (Event × Bool) → Type 0) (plugins : List P) (r : Result Measured RunFault)
    → OnErr r (WasRefused hook plugin plan old nothing told plugins) → OnErr r (WasRefused hook plugin plan new nothing told plugins)
refused-so {A} {P} hook plugin plan old new e nothing told plugins r h = subst (λ (s : Sources A P). OnErr r (WasRefused hook plugin plan s nothing told plugins)) e h
