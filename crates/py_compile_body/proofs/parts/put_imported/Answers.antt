use Rattle.std.proofs.Common.{refl}
use Rattle.py_syntax.specs.View.{plain_aliases}
use Rattle.py_compile_expr.proofs.Turns.{none_added, none_counted}
use Rattle.py_compile_expr.specs.CellView.{plain_guard}
use Rattle.py_compile.specs.Statements.{import_size, import_code}
use Rattle.py_compile_body.proofs.SimpleSizes.{imported_turn, imported_counted}
use Rattle.py_compile_body.proofs.parts.put_imported.Goals as goal

pub loop-alias-preserved : goal.loop-alias-preserved
loop-alias-preserved c = record {
  cells = imported_turn (plain_guard c.args.guard) c.args.names.now c.loop-alias.alias-index c.alias-item.result _ _ _ _ c.loop-alias-test.true c.alias-item.is c.in_ok-to.ensures.cells c.in_ok-to-2.ensures.cells c.loop-alias.invariant.cells;
  place = imported_counted c.args.names.now c.loop-alias.alias-index c.alias-item.result c.loop-alias.to c.in_ok-to.to c.in_ok-to-2.to _ c.loop-alias-test.true c.alias-item.is c.in_ok-to.ensures.place c.in_ok-to-2.ensures.place c.loop-alias.invariant.place;
}

pub returns-clause-cells : goal.returns-clause-cells
returns-clause-cells c = none_added (λ xs. import_code (plain_guard c.args.guard) (plain_aliases xs)) refl _ _ _ _ c.loop-alias-test.false c.loop-alias.invariant.cells

pub returns-clause-place : goal.returns-clause-place
returns-clause-place c = none_counted (λ xs. import_size (plain_aliases xs)) refl _ _ _ _ c.loop-alias-test.false c.loop-alias.invariant.place
