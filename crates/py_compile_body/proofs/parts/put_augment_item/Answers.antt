use Rattle.py_syntax.specs.View.{plain_expr}
use Rattle.py_compile_expr.proofs.Turns.{three}
use Rattle.py_compile_expr.specs.CellView.{plain_guard}
use Rattle.py_compile_body.proofs.SimpleSizes.{augment_node}
use Rattle.py_compile_body.proofs.parts.put_augment_item.Goals as goal

pub returns-clause-cells : goal.returns-clause-cells
returns-clause-cells c =
    three c.put_written_item.result _ _ _ _ _ _ _ _ c.in_ok-read.ensures.cells c.in_ok-written.ensures.cells c.put_written_item.ensures.cells
    (augment_node (plain_guard c.args.guard) c.args.at c.in_ok-read.read (plain_expr c.args.of.now) (plain_expr c.args.key.now) c.args.op (plain_expr c.args.e.now) c.in_ok-read.ensures.place)
