use Rattle.std.proofs.Common.{◌≡◌, drop, map}
use Rattle.std.specs.Prelude.{filter}
use Rattle.py_code.specs.Units.{plain_unit}
use Rattle.py_syntax.specs.Names.{add_names}
use Rattle.cov_suite.specs.Tests.{is_test}
use Rattle.cov_suite.proofs.names.tests_among.Given as goal

abbrev pub invariant-loop-unit : goal.invariant-loop-unit
invariant-loop-unit l =
    add_names l.found (filter is_test (map (λ u. u.name) (map plain_unit (drop l.unit-index l.defs))))
    ≡ add_names l.initial.found (filter is_test (map (λ u. u.name) (map plain_unit l.defs)))
