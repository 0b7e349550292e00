use Rattle.std.proofs.Common.{refl}
use Rattle.py_syntax.specs.View.{plain_pattern, plain_patterns}
use Rattle.py_scope.specs.Occurrences.{in_pattern, in_patterns}
use Rattle.py_scope.proofs.Bindings.{matched_literal-is, matched_capture-is, matched_wild-is, matched_member-is, matched_sequence-is, matched_p_or-is, matched_p_as-is, matched_p_paren-is}
use Rattle.py_scope.proofs.Gathering.{listed, at_end, goes_on, renamed, silent, stopped, a_turn}
use Rattle.py_scope.proofs.occurrences.+pattern.Goals as goal

pub patterns-returns : goal.patterns-returns
patterns-returns t c = at_end listed (λ xs. in_patterns (plain_patterns xs)) refl _ _ _ _ c.loop-p-test.false c.loop-p.invariant

pub pattern-returns-in-Literal : goal.pattern-returns-in-Literal
pattern-returns-in-Literal t c =
    silent listed _ _ (matched_literal-is c.args.p.now _ _ c.in-Literal.is)

pub pattern-returns-in-Capture : goal.pattern-returns-in-Capture
pattern-returns-in-Capture t c =
    renamed listed c.push_assigned.result _ _ _ _ (matched_capture-is c.args.p.now _ c.in-Capture.is) c.push_assigned.ensures

pub pattern-returns-in-Wild : goal.pattern-returns-in-Wild
pattern-returns-in-Wild t c =
    silent listed _ _ (matched_wild-is c.args.p.now c.in-Wild.is)

pub pattern-returns-in-Member : goal.pattern-returns-in-Member
pattern-returns-in-Member t c =
    renamed listed c.push_use.result _ _ _ _ (matched_member-is c.args.p.now _ _ c.in-Member.is) c.push_use.ensures

pub pattern-returns-in-Sequence : goal.pattern-returns-in-Sequence
pattern-returns-in-Sequence t c =
    renamed listed c.patterns.result _ _ _ _ (matched_sequence-is c.args.p.now _ c.in-Sequence.items _ _ c.in-Sequence.is c.deref.ensures.value) c.patterns.ensures

pub pattern-returns-in-Or : goal.pattern-returns-in-Or
pattern-returns-in-Or t c =
    renamed listed c.patterns-in-Or.result _ _ _ _ (matched_p_or-is c.args.p.now c.in-Or.alternatives _ c.in-Or.is c.deref-in-Or.ensures.value) c.patterns-in-Or.ensures

pub pattern-returns-in_ok-pattern-in-As : goal.pattern-returns-in_ok-pattern-in-As
pattern-returns-in_ok-pattern-in-As t c =
    goes_on listed c.push_assigned-in-As.result _ _ _ _ _ _ c.push_assigned-in-As.ensures c.in_ok-pattern-in-As.ensures (matched_p_as-is c.args.p.now c.in-As.inner _ _ c.in-As.is c.deref-in-As.ensures)

pub pattern-returns-in-Paren : goal.pattern-returns-in-Paren
pattern-returns-in-Paren t c =
    renamed listed c.pattern-in-Paren.result _ _ _ _ (matched_p_paren-is c.args.p.now c.in-Paren.inner _ c.in-Paren.is c.deref-in-Paren.ensures) c.pattern-in-Paren.ensures

pub pattern-returns-in_err-pattern-in-As : goal.pattern-returns-in_err-pattern-in-As
pattern-returns-in_err-pattern-in-As t c =
    stopped _ c.from_residual.result c.from_residual.ensures.0

pub patterns-returns-in_err-pattern : goal.patterns-returns-in_err-pattern
patterns-returns-in_err-pattern t c =
    stopped _ c.from_residual.result c.from_residual.ensures.0

pub patterns-loop-p-preserved : goal.patterns-loop-p-preserved
patterns-loop-p-preserved t c =
    a_turn listed (λ xs. in_patterns (plain_patterns xs)) (λ p. in_pattern (plain_pattern p)) (λ p ps. refl) c.loop-p.out.items c.pattern.new.out.items _ c.args.items.now c.loop-p.p-index c.p-item.result
    c.loop-p-test.true c.p-item.is c.in_ok-pattern.ensures c.loop-p.invariant
