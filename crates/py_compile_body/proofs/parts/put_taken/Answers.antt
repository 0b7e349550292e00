use Rattle.std.proofs.Common.{refl}
use Rattle.py_syntax.specs.View.{plain_aliases}
use Rattle.py_compile_expr.proofs.Turns.{the_number}
use Rattle.py_compile_expr.specs.CellView.{plain_guard}
use Rattle.py_compile.specs.Statements.{take_size, take_code}
use Rattle.py_compile_body.proofs.Ends.{one_added, one_more}
use Rattle.py_compile_body.proofs.SimpleSizes.{taken_turn, taken_counted}
use Rattle.py_compile_body.proofs.parts.put_taken.Goals as goal

pub loop-alias-preserved : goal.loop-alias-preserved
loop-alias-preserved c = record {
  cells = taken_turn (plain_guard c.args.guard) c.args.of.now c.args.names.now c.loop-alias.alias-index c.alias-item.result _ _ _ _ c.loop-alias-test.true c.alias-item.is c.in_ok-to.ensures.cells c.in_ok-to-2.ensures.cells c.loop-alias.invariant.cells;
  place = taken_counted c.args.names.now c.loop-alias.alias-index c.alias-item.result c.loop-alias.to c.in_ok-to.to c.in_ok-to-2.to _ c.loop-alias-test.true c.alias-item.is c.in_ok-to.ensures.place c.in_ok-to-2.ensures.place c.loop-alias.invariant.place;
}

pub returns-clause-cells : goal.returns-clause-cells
returns-clause-cells c =
    one_added (λ xs. take_code (plain_guard c.args.guard) c.args.of.now (plain_aliases xs)) _ refl c.put.result _ _ _ _ _ c.loop-alias-test.false c.put.ensures.cells c.loop-alias.invariant.cells

pub returns-clause-place : goal.returns-clause-place
returns-clause-place c =
    the_number c.put.result _ _ c.put.ensures.place (one_more (λ xs. take_size (plain_aliases xs)) refl _ _ _ _ c.loop-alias-test.false c.loop-alias.invariant.place)
