use Rattle.std.proofs.Common.{refl}
use Rattle.py_syntax.specs.View.{plain_expr, plain_exprs}
use Rattle.py_scope.specs.Occurrences.{in_target, in_targets}
use Rattle.py_scope.proofs.Bindings.{target_name-is, target_tuple-is, target_list-is, target_paren-is, target_dict-is}
use Rattle.py_scope.proofs.Gathering.{listed, at_end, renamed, stopped, a_turn}
use Rattle.py_scope.proofs.occurrences.+target.Goals as goal

pub targets-returns : goal.targets-returns
targets-returns t c = at_end listed (λ xs. in_targets (plain_exprs xs)) refl _ _ _ _ c.loop-e-test.false c.loop-e.invariant

pub target-returns-in-Name : goal.target-returns-in-Name
target-returns-in-Name t c =
    renamed listed c.push_assigned.result _ _ _ _ (target_name-is c.args.e.now _ c.in-Name.is) c.push_assigned.ensures

pub target-returns-in-Tuple : goal.target-returns-in-Tuple
target-returns-in-Tuple t c =
    renamed listed c.targets.result _ _ _ _ (target_tuple-is c.args.e.now c.in-Tuple.items _ _ c.in-Tuple.is c.deref.ensures.value) c.targets.ensures

pub target-returns-in-List : goal.target-returns-in-List
target-returns-in-List t c =
    renamed listed c.targets-in-List.result _ _ _ _ (target_list-is c.args.e.now c.in-List.items _ _ c.in-List.is c.deref-in-List.ensures.value) c.targets-in-List.ensures

pub target-returns-in-Dict : goal.target-returns-in-Dict
target-returns-in-Dict t c =
    renamed listed c.expr.result _ _ _ _ (target_dict-is c.args.e.now _ _ c.in-Dict.is) c.expr.ensures

pub target-returns-in-Paren : goal.target-returns-in-Paren
target-returns-in-Paren t c =
    renamed listed c.target.result _ _ _ _ (target_paren-is c.args.e.now c.in-Paren.inner _ c.in-Paren.is c.deref-in-Paren.ensures) c.target.ensures

pub targets-returns-in_err-target : goal.targets-returns-in_err-target
targets-returns-in_err-target t c =
    stopped _ c.from_residual.result c.from_residual.ensures.0

pub targets-loop-e-preserved : goal.targets-loop-e-preserved
targets-loop-e-preserved t c =
    a_turn listed (λ xs. in_targets (plain_exprs xs)) (λ e. in_target (plain_expr e)) (λ e es. refl) c.loop-e.out.items c.target.new.out.items _ c.args.items.now c.loop-e.e-index c.e-item.result
    c.loop-e-test.true c.e-item.is c.in_ok-target.ensures c.loop-e.invariant
