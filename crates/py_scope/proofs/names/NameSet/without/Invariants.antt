use Rattle.std.proofs.Common.{◌≡◌, ◌++◌, drop}
use Rattle.std.specs.Prelude.{not, filter}
use Rattle.py_syntax.specs.Names.{is_among}
use Rattle.py_scope.proofs.names.NameSet.without.Given as goal

abbrev pub invariant-loop-name : goal.invariant-loop-name
invariant-loop-name l =
    l.left.items ++ filter (λ x. not (is_among l.others x)) (drop l.name-index l.names)
    ≡ filter (λ x. not (is_among l.others x)) l.names
