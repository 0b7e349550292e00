use Rattle.std.proofs.Common.{refl, ap, ◌∙◌}
use Rattle.py_syntax.specs.View.{plain_pattern, plain_patterns}
use Rattle.py_scope.specs.PatternFacts.{items_facts, facts_of, either}
use Rattle.py_scope.proofs.Alternatives.{tells_turn}
use Rattle.py_scope.proofs.Gathering.{told, all_told, a_turn, the_drop}
use Rattle.py_scope.proofs.patterns.+facts.Goals as goal

pub items_facts-returns : goal.items_facts-returns
items_facts-returns t c = all_told told (λ ps. items_facts (plain_patterns ps)) refl _ _ _ _ c.loop-item-test.false c.loop-item.invariant

pub items_facts-loop-item-preserved : goal.items_facts-loop-item-preserved
items_facts-loop-item-preserved t c =
    a_turn told (λ ps. items_facts (plain_patterns ps)) (λ p. facts_of (plain_pattern p)) (λ p ps. refl) c.loop-item.all _ _ c.args.items.now c.loop-item.item-index c.item-item.result c.loop-item-test.true c.item-item.is
    (c.either-all.ensures ∙ ap (either c.loop-item.all) c.pattern_facts.ensures) c.loop-item.invariant

pub alternatives_facts-loop-alternative-preserved : goal.alternatives_facts-loop-alternative-preserved
alternatives_facts-loop-alternative-preserved t c =
    tells_turn c.loop-alternative.all c.before_another.result c.pattern_facts.result c.either-all.result (plain_pattern c.alternative-item.result) _ _ (plain_patterns c.args.alternatives.now)
    (ap plain_patterns (the_drop c.args.alternatives.now c.loop-alternative.alternative-index c.alternative-item.result c.loop-alternative-test.true c.alternative-item.is))
    c.before_another.ensures c.pattern_facts.ensures c.either-all.ensures c.loop-alternative.invariant
