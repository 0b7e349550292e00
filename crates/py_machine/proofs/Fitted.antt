-- A run and a call over what was read keep what fits.
use Rattle.std.proofs.Common.{ℕ, List, [], sym, subst}
use Rattle.cov_event.specs.declared.event.Event.{Event}
use Rattle.py_builtins.specs.World.{World}
use Rattle.py_code.specs.Programs.{Request, called}
use Rattle.py_code.specs.Slots.{by_slots}
use Rattle.py_code.specs.Units.{Module}
use Rattle.py_code.specs.Valid.{AreCodes}
use Rattle.py_world_laws.specs.Fits.{Fits}
use Rattle.py_world_laws.specs.Laws.{values_given}
use Rattle.py_world_laws.proofs.Law.{first_fits, runs_keep, calls_keep}
use Rattle.py_machine.specs.declared.outcome.Answer.{Answer}
use Rattle.py_machine.specs.declared.outcome.Ran.{Ran}
use Rattle.py_machine.specs.Fitting.{RunFits, CallFits, NewStoreFits}
use Rattle.py_machine.specs.Outcomes.{plain_called}
use Rattle.py_machine.specs.Runs.{IsRun, IsCall}
use Rattle.py_machine.specs.Told.{OnInput}

module _ (ms : List Module) (codes_are : AreCodes ms) (tells : Type 0) (before after : List ℕ) (took : List Event → Type 0) (wrote : List ℕ → Type 0) (w left : World) (budget : ℕ) where
  pub run_fits : (ran : Ran) → OnInput tells before after (IsRun took wrote ms w budget ran left) → RunFits ms w left
  run_fits ran h = λ makers fits.
      let r = h.holds h.input h.rest h.fed in
      subst (λ v. Fits ms v []) r.world (runs_keep ms codes_are makers w fits h.input budget)

  pub call_fits : (r : Request) (answer : Answer) → OnInput tells before after (IsCall took wrote ms w r budget answer left) → CallFits ms w r.values answer.called left
  call_fits r answer h = λ makers fits.
      let y = h.holds h.input h.rest h.fed in
      let whole = called (by_slots ms) ms w h.input r budget in
      let k : Fits ms whole.world (values_given whole.returned) = calls_keep ms codes_are makers w r fits h.input budget in
      subst (λ v. Fits ms v (values_given (plain_called answer.called))) y.world (subst (λ v. Fits ms whole.world (values_given v)) (sym y.returned) k)

pub new_store_fits : NewStoreFits
new_store_fits ms words s is = subst (λ w. Fits ms w []) (sym is) (first_fits ms words)
