use Rattle.std.proofs.Common.{refl, ap, arith, ◌∙◌}
use Rattle.py_code.specs.Loaded.{modules_of}
use Rattle.cov_mutate.specs.Code.{with_units}
use Rattle.cov_mutate.proofs.Sources.{units-at, units-set, length-modules}
use Rattle.cov_mutate.proofs.trial.swap_code.Goals as goal

pub returns-clause-had : goal.returns-clause-had
returns-clause-had c =
    let ps = c.args.programs.now.modules.items in
    c.replace.ensures.value ∙ units-at ps c.args.m c.index_mut.result.now (omega (arith, c.requires, length-modules ps)) c.index_mut.ensures.value

pub returns-clause-has : goal.returns-clause-has
returns-clause-has c =
    let ps = c.args.programs.now.modules.items in
    units-set ps c.args.m c.index_mut.result.now _ (omega (arith, c.requires, length-modules ps)) c.index_mut.ensures.value refl
    ∙ ap (λ us. with_units (modules_of c.args.programs.now) c.args.m us) c.replace.ensures.after
