use Rattle.std.proofs.Common.{◌≡◌, take}
use Rattle.py_syntax.specs.View.{plain_aliases}
use Rattle.cov_mutants.proofs.kinds.aliases.Given as goal

abbrev pub invariant-loop-item : goal.invariant-loop-item
invariant-loop-item l = plain_aliases l.out.items ≡ plain_aliases (take l.item-index l.items)
