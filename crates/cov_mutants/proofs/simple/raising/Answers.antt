use Rattle.std.proofs.Common.{refl}
use Rattle.std.specs.Option.{option_map}
use Rattle.py_syntax.specs.Tree.{raise}
use Rattle.py_syntax.specs.View.{plain_expr, plain_kind}
use Rattle.py_changes.specs.Mutants.{at_mark, maybe_mutants, kind_mutants}
use Rattle.cov_mutants.proofs.Made.{made-one}
use Rattle.cov_mutants.proofs.simple.raising.Goals as goal

pub returns : goal.returns
returns c =
    let l = c.args.line in
    made-one (kind_mutants l) (λ x. at_mark l (maybe_mutants x)) (λ b. plain_kind b.value) (option_map plain_expr) raise _ _ _ c.maybe.result c.raise_of.result refl c.maybe.ensures c.raise_of.ensures
