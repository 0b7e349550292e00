use Rattle.std.proofs.Common.{refl, ap, Some}
use Rattle.std.specs.Option.{option_map}
use Rattle.py_syntax.specs.View.{plain_expr}
use Rattle.py_changes.specs.Mutants.{expr_mutants, maybe_mutants}
use Rattle.cov_places.proofs.Counts.{count-one}
use Rattle.cov_places.proofs.stmt_counts.maybe.Goals as goal

pub returns-in-Some : goal.returns-in-Some
returns-in-Some c = count-one maybe_mutants expr_mutants Some _ _ (plain_expr c.in-Some.e) _ (ap (option_map plain_expr) c.in-Some.is) refl c.expr.ensures
