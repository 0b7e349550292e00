-- What is told of patterns at one look.
use Rattle.std.specs.Prelude.{Bool, false, ◌||◌}
use Rattle.py_syntax.specs.Tree.{Pattern, Patterns}
use Rattle.py_scope.specs.declared.patterns.PatternFacts.{PatternFacts}
use Rattle.py_scope.specs.Patterns.{has_early, some_early, binds, some_binds, alternative_binds, some_alternative_binds}
use Rattle.py_syntax.specs.Patterns.{is_irrefutable, has_irrefutable}

-- of a pattern with no other in it
abbrev pub simple_facts : Bool → Bool → PatternFacts
simple_facts irrefutable binds = record {
  irrefutable = irrefutable;
  early = false;
  binds = binds;
  alternative_binds = false;
}

-- of a pattern
abbrev pub facts_of : Pattern → PatternFacts
facts_of p = record {
  irrefutable = is_irrefutable p;
  early = has_early p;
  binds = binds p;
  alternative_binds = alternative_binds p;
}

-- of the items of a sequence
abbrev pub items_facts : Patterns → PatternFacts
items_facts ps = record {
  irrefutable = has_irrefutable ps;
  early = some_early ps;
  binds = some_binds ps;
  alternative_binds = some_alternative_binds ps;
}

-- of one or the other
abbrev pub either : PatternFacts → PatternFacts → PatternFacts
either a b = record {
  irrefutable = a.irrefutable || b.irrefutable;
  early = a.early || b.early;
  binds = a.binds || b.binds;
  alternative_binds = a.alternative_binds || b.alternative_binds;
}
