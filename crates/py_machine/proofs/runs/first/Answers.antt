use Rattle.std.proofs.Common.{ap, ◌∙◌}
use Rattle.py_code.specs.Loaded.{modules_of}
use Rattle.py_code.specs.Units.{unit_at}
use Rattle.py_machine.proofs.Errs.{if_err}
use Rattle.py_machine.proofs.runs.first.Goals as goal

pub returns-clause-start : goal.returns-clause-start
returns-clause-start c = record {
  unit = c.requires.0;
  is = ap (λ f. unit_at (modules_of c.args.programs.now) f.code) c.in_ok-top.ensures ∙ c.requires.1;
  place = ap (λ f. f.place) c.in_ok-top.ensures;
  operands = ap (λ f. f.operands) c.in_ok-top.ensures;
  callers = c.new.ensures;
}

pub returns-in_err-top-clause-start : goal.returns-in_err-top-clause-start
returns-in_err-top-clause-start c = if_err _ _ c.from_residual.ensures.0

pub returns-in_err-top-clause-frame : goal.returns-in_err-top-clause-frame
returns-in_err-top-clause-frame c = if_err _ _ c.from_residual.ensures.0

pub returns-in_err-top-clause-steps : goal.returns-in_err-top-clause-steps
returns-in_err-top-clause-steps c = if_err _ _ c.from_residual.ensures.0
