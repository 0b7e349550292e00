-- The machine ends a source as its meaning does.
use Rattle.std.proofs.Common.{arith, ap, ◌∙◌}
use Rattle.py_compile_laws.specs.Traces.{TracesKept}
use Rattle.cov_make_laws.specs.Endings.{MadeFinishOnMachine}
use Rattle.cov_make_laws.specs.Loadings.{module_alone}
use Rattle.cov_make_laws.proofs.Trees.{tree_well_formed}
use Rattle.cov_make_laws.proofs.WholeRuns.{made_finish}

pub made_finish_on_machine : TracesKept → MadeFinishOnMachine
made_finish_on_machine kept cs name path words input seed size low faithful =
    let e = kept.runs cs (module_alone name path seed size) faithful
    (tree_well_formed seed size, tt) (omega arith) words input 1000000 in
    let d = made_finish name path words input seed size 1000000 low (omega (arith, low)) in
    record {
      outcome = ap (λ r. r.outcome) e ∙ d.outcome;
      steps = omega (arith, ap (λ r. r.steps) e, d.steps, low);
    }
