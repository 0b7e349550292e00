use Rattle.std.proofs.Common.{◌≡◌, drop}
use Rattle.py_syntax.specs.View.{plain_patterns}
use Rattle.cov_mutants_expr.specs.Rows.{before}
use Rattle.cov_mutants_expr.specs.Rows.{put_pattern}
use Rattle.cov_mutants_expr.proofs.patterns.+pattern.Given as goal

abbrev pub invariant-patterns-loop-p : goal.invariant-patterns-loop-p
invariant-patterns-loop-p l = before put_pattern l.out.items (plain_patterns (drop l.p-index l.items)) ≡ plain_patterns l.items
