use Rattle.std.proofs.Common.{◌≡◌, ◌||◌, ◌&&◌, not, drop}
use Rattle.py_syntax.specs.View.{plain_patterns}
use Rattle.py_scope.specs.Patterns.{is_last, is_early, some_early, some_binds}
use Rattle.py_syntax.specs.Patterns.{has_irrefutable}
use Rattle.py_scope.specs.PatternFacts.{items_facts, either}
use Rattle.py_scope.proofs.patterns.+facts.Given as goal

abbrev pub invariant-items_facts-loop-item : goal.invariant-items_facts-loop-item
invariant-items_facts-loop-item l = either l.all (items_facts (plain_patterns (drop l.item-index l.items))) ≡ items_facts (plain_patterns l.items)

abbrev pub invariant-alternatives_facts-loop-alternative : goal.invariant-alternatives_facts-loop-alternative
invariant-alternatives_facts-loop-alternative l =
    let rest = plain_patterns (drop l.alternative-index l.alternatives) in
    let whole = plain_patterns l.alternatives in
    record {
      irrefutable : (l.all.irrefutable || has_irrefutable rest) ≡ has_irrefutable whole;
      binds : (l.all.binds || some_binds rest) ≡ some_binds whole;
      early : (l.all.early || ((l.all.irrefutable && not (is_last rest)) || (is_early rest || some_early rest))) ≡ (is_early whole || some_early whole);
    }
