use Rattle.std.proofs.Common.{ap, sym, ◌+◌}
use Rattle.std.specs.Option.{option_map}
use Rattle.py_syntax.specs.View.{plain_expr}
use Rattle.py_compile_expr.proofs.Turns.{kept, the_number}
use Rattle.py_compile_expr.specs.CellView.{plain_guard}
use Rattle.py_compile.specs.Statements.{option_size, option_code}
use Rattle.py_compile_body.proofs.parts.put_option.Goals as goal

pub returns-in-None-clause-cells : goal.returns-in-None-clause-cells
returns-in-None-clause-cells c = kept c.put.result _ _ _ _ (ap (λ o. option_code (plain_guard c.args.guard) c.args.at (option_map plain_expr o)) c.in-None.is) c.put.ensures.cells

pub returns-in-None-clause-place : goal.returns-in-None-clause-place
returns-in-None-clause-place c = the_number c.put.result _ _ c.put.ensures.place (ap (λ o. c.args.at + option_size (option_map plain_expr o)) (sym c.in-None.is))

pub returns-in-Some-clause-cells : goal.returns-in-Some-clause-cells
returns-in-Some-clause-cells c = kept c.put_expr.result _ _ _ _ (ap (λ o. option_code (plain_guard c.args.guard) c.args.at (option_map plain_expr o)) c.in-Some.is) c.put_expr.ensures.cells

pub returns-in-Some-clause-place : goal.returns-in-Some-clause-place
returns-in-Some-clause-place c = the_number c.put_expr.result _ _ c.put_expr.ensures.place (ap (λ o. c.args.at + option_size (option_map plain_expr o)) (sym c.in-Some.is))
