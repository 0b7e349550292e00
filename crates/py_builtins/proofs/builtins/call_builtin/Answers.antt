use Rattle.std.proofs.Common.{refl, sym}
use Rattle.cov_outside.proofs.PrefixLemmas.{gains_nothing, loses_nothing}
use Rattle.py_value.specs.HeapView.{plain_heap}
use Rattle.py_value.specs.View.{plains}
use Rattle.py_builtins.proofs.Asking.{for_quiet, for_print, quiet_writes, quiet_leaves}
use Rattle.py_builtins.proofs.Turns.{on_err}
use Rattle.py_builtins.proofs.builtins.call_builtin.Goals as goal

pub returns-in-Print-clause-answer : goal.returns-in-Print-clause-answer
returns-in-Print-clause-answer g c =
    for_print c.print.result _ g.O.Sink.tells (g.I.Source.left c.args.input.now) (g.O.Sink.contents c.args.out.now) (g.O.Sink.contents c.print.new.out) c.args.which (plains c.args.args.now) (plain_heap c.args.heap.now) c.in-Print.is
    c.print.ensures.answer (λ t. c.print.ensures.written t)

pub returns-in_ok-call_quiet-in_default-clause-answer : goal.returns-in_ok-call_quiet-in_default-clause-answer
returns-in_ok-call_quiet-in_default-clause-answer g c =
    for_quiet _ g.O.Sink.tells (g.I.Source.left c.args.input.now) (g.O.Sink.contents c.args.out.now) c.args.which (plains c.args.args.now) (plain_heap c.args.heap.now) _ c.in_default.not-Print c.in_default.not-Input c.in_ok-call_quiet-in_default.ensures.answer

pub returns-in_ok-call_quiet-in_default-clause-written : goal.returns-in_ok-call_quiet-in_default-clause-written
returns-in_ok-call_quiet-in_default-clause-written g c =
    λ t. quiet_writes c.args.which (plains c.args.args.now) (plain_heap c.args.heap.now) (g.I.Source.left c.args.input.now) (g.O.Sink.contents c.args.out.now) c.in_default.not-Print c.in_default.not-Input

pub returns-in_ok-call_quiet-in_default-clause-left : goal.returns-in_ok-call_quiet-in_default-clause-left
returns-in_ok-call_quiet-in_default-clause-left g c =
    λ t. quiet_leaves c.args.which (plains c.args.args.now) (plain_heap c.args.heap.now) (g.I.Source.left c.args.input.now) c.in_default.not-Print c.in_default.not-Input

pub returns-in_err-call_quiet-in_default-clause-no_further : goal.returns-in_err-call_quiet-in_default-clause-no_further
returns-in_err-call_quiet-in_default-clause-no_further g c =
    λ t. on_err c.from_residual.result
    (loses_nothing _ _ (sym (quiet_leaves c.args.which (plains c.args.args.now) (plain_heap c.args.heap.now) (g.I.Source.left c.args.input.now) c.in_default.not-Print c.in_default.not-Input)))

pub returns-in_err-call_quiet-in_default-clause-gained : goal.returns-in_err-call_quiet-in_default-clause-gained
returns-in_err-call_quiet-in_default-clause-gained g c = λ t. on_err c.from_residual.result (gains_nothing _ _ _ refl)

pub returns-in_err-call_quiet-in_default-clause-lost : goal.returns-in_err-call_quiet-in_default-clause-lost
returns-in_err-call_quiet-in_default-clause-lost g c = λ t. on_err c.from_residual.result (loses_nothing _ _ refl)
