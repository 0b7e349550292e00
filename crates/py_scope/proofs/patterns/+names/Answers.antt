use Rattle.std.proofs.Common.{refl}
use Rattle.py_syntax.specs.View.{plain_pattern, plain_patterns}
use Rattle.py_syntax.specs.Names.{pattern_names, patterns_names}
use Rattle.py_scope.proofs.Bindings.{caught_literal-is, caught_capture-is, caught_wild-is, caught_member-is, caught_sequence-is, caught_p_or-is, caught_p_as-is, caught_p_paren-is}
use Rattle.py_scope.proofs.Gathering.{listed, at_end, goes_on, renamed, silent, stopped, a_turn}
use Rattle.py_scope.proofs.patterns.+names.Goals as goal

pub push_all_names-returns : goal.push_all_names-returns
push_all_names-returns t c = at_end listed (λ ps. patterns_names (plain_patterns ps)) refl _ _ _ _ c.loop-pattern-test.false c.loop-pattern.invariant

pub push_names-returns-in-Literal : goal.push_names-returns-in-Literal
push_names-returns-in-Literal t c =
    silent listed _ _ (caught_literal-is c.args.pattern.now _ _ c.in-Literal.is)

pub push_names-returns-in-Capture : goal.push_names-returns-in-Capture
push_names-returns-in-Capture t c =
    renamed listed c.push_name.result _ _ _ _ (caught_capture-is c.args.pattern.now _ c.in-Capture.is) c.push_name.ensures

pub push_names-returns-in-Wild : goal.push_names-returns-in-Wild
push_names-returns-in-Wild t c =
    silent listed _ _ (caught_wild-is c.args.pattern.now c.in-Wild.is)

pub push_names-returns-in-Member : goal.push_names-returns-in-Member
push_names-returns-in-Member t c =
    silent listed _ _ (caught_member-is c.args.pattern.now _ _ c.in-Member.is)

pub push_names-returns-in-Sequence : goal.push_names-returns-in-Sequence
push_names-returns-in-Sequence t c =
    renamed listed c.push_all_names.result _ _ _ _ (caught_sequence-is c.args.pattern.now _ c.in-Sequence.items _ _ c.in-Sequence.is c.deref.ensures.value) c.push_all_names.ensures

pub push_names-returns-in-Or : goal.push_names-returns-in-Or
push_names-returns-in-Or t c =
    renamed listed c.push_all_names-in-Or.result _ _ _ _ (caught_p_or-is c.args.pattern.now c.in-Or.alternatives _ c.in-Or.is c.deref-in-Or.ensures.value) c.push_all_names-in-Or.ensures

pub push_names-returns-in_ok-push_names-in-As : goal.push_names-returns-in_ok-push_names-in-As
push_names-returns-in_ok-push_names-in-As t c =
    goes_on listed c.push_name-in-As.result _ _ _ _ _ _ c.push_name-in-As.ensures c.in_ok-push_names-in-As.ensures (caught_p_as-is c.args.pattern.now c.in-As.inner _ _ c.in-As.is c.deref-in-As.ensures)

pub push_names-returns-in-Paren : goal.push_names-returns-in-Paren
push_names-returns-in-Paren t c =
    renamed listed c.push_names-in-Paren.result _ _ _ _ (caught_p_paren-is c.args.pattern.now c.in-Paren.inner _ c.in-Paren.is c.deref-in-Paren.ensures) c.push_names-in-Paren.ensures

pub push_names-returns-in_err-push_names-in-As : goal.push_names-returns-in_err-push_names-in-As
push_names-returns-in_err-push_names-in-As t c =
    stopped _ c.from_residual.result c.from_residual.ensures.0

pub push_all_names-returns-in_err-push_names : goal.push_all_names-returns-in_err-push_names
push_all_names-returns-in_err-push_names t c =
    stopped _ c.from_residual.result c.from_residual.ensures.0

pub push_all_names-loop-pattern-preserved : goal.push_all_names-loop-pattern-preserved
push_all_names-loop-pattern-preserved t c =
    a_turn listed (λ ps. patterns_names (plain_patterns ps)) (λ p. pattern_names (plain_pattern p)) (λ p ps. refl) c.loop-pattern.names.items c.push_names.new.names.items _ c.args.patterns.now c.loop-pattern.pattern-index c.pattern-item.result
    c.loop-pattern-test.true c.pattern-item.is c.in_ok-push_names.ensures c.loop-pattern.invariant
