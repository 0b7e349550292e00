use Rattle.std.proofs.Common.{◌≡◌, drop}
use Rattle.py_syntax.specs.Names.{add_names}
use Rattle.cov_changed.specs.Local.{undeclared}
use Rattle.cov_changed.proofs.locals.add_params.Given as goal

abbrev pub invariant-loop-x : goal.invariant-loop-x
invariant-loop-x l = add_names l.names (undeclared l.declared (drop l.x-index l.params)) ≡ add_names l.initial.names (undeclared l.declared l.params)
