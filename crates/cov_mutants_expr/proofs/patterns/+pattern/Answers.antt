use Rattle.std.proofs.Common.{refl}
use Rattle.py_syntax.specs.View.{plain_patterns}
use Rattle.cov_mutants_expr.specs.Rows.{put_pattern}
use Rattle.cov_mutants_expr.proofs.RowLaws.{all_copied}
use Rattle.cov_mutants_expr.proofs.patterns.+pattern.Goals as goal

pub patterns-returns : goal.patterns-returns
patterns-returns t c = all_copied put_pattern plain_patterns (λ p ps. refl) c.args.items.now c.loop-p.p-index c.loop-p.out.items c.loop-p-test.false c.loop-p.invariant
