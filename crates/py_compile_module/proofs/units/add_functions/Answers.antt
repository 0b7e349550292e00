use Rattle.std.proofs.Common.{[], ◌∷◌, ◌++◌, map, ap, ◌∙◌}
use Rattle.std.proofs.lemmas.List.{map-append}
use Rattle.py_code.specs.Units.{plain_unit}
use Rattle.py_compile.specs.Units.{function_code}
use Rattle.py_compile_module.proofs.Turns.{named, one_more}
use Rattle.py_compile_module.proofs.units.add_functions.Goals as goal

pub unit_of-requires : goal.unit_of-requires
unit_of-requires c = named c.args.scopes.now c.args.defs.now c.loop-at.at c.index-defs-at.result c.requires c.loop-at-test.true c.index-defs-at.is

pub loop-at-preserved : goal.loop-at-preserved
loop-at-preserved c = λ fs h.
    one_more (function_code fs) (map plain_unit c.loop-at.units.items) _ _ c.args.defs.now c.loop-at.at c.index-defs-at.result c.loop-at-test.true c.index-defs-at.is
    (ap (map plain_unit) c.in_ok-push.ensures.items ∙ map-append plain_unit c.loop-at.units.items (c.in_ok-unit.unit ∷ [])
    ∙ ap (λ u. map plain_unit c.loop-at.units.items ++ u ∷ []) (c.in_ok-unit.ensures fs h))
    (c.loop-at.invariant fs h)
