use Rattle.std.proofs.Common.{get_or, map, ap, sym, ◌∙◌}
use Rattle.py_value.specs.declared.exception.ExcKind.TheVariants.{BaseException}
use Rattle.py_value.specs.Plain.{kind_value}
use Rattle.py_builtins.specs.Displays.{kind_name}
use Rattle.py_builtins.specs.Predefined.{kind_pair}
use Rattle.py_builtins.specs.World.{value_of}
use Rattle.py_world.proofs.SetNames.{value_none, value_here, value_next}
use Rattle.py_world.proofs.Walked.{get_or_any, drop_here, all_dropped}
use Rattle.py_world.proofs.known_names.kind_among.Goals as goal

pub returns-then-is_kind : goal.returns-then-is_kind
returns-then-is_kind c =
    let x = get_or c.args.all.now c.loop-kind.kind-index BaseException in
    let at = get_or_any c.args.all.now c.loop-kind.kind-index BaseException x c.loop-kind-test.true in
    sym c.loop-kind.invariant
    ∙ ap (λ ys. value_of c.args.name.now (map kind_pair ys)) (drop_here c.args.all.now c.loop-kind.kind-index x c.loop-kind-test.true at)
    ∙ value_here c.args.name.now (kind_name x) (kind_value x) _ (sym c.is_kind.ensures ∙ c.if-is_kind.true)

pub loop-kind-preserved : goal.loop-kind-preserved
loop-kind-preserved c =
    let x = get_or c.args.all.now c.loop-kind.kind-index BaseException in
    let at = get_or_any c.args.all.now c.loop-kind.kind-index BaseException x c.loop-kind-test.true in
    sym (ap (λ ys. value_of c.args.name.now (map kind_pair ys)) (drop_here c.args.all.now c.loop-kind.kind-index x c.loop-kind-test.true at)
    ∙ value_next c.args.name.now (kind_name x) (kind_value x) _ (sym c.is_kind.ensures ∙ c.if-is_kind.false))
    ∙ c.loop-kind.invariant

pub returns : goal.returns
returns c =
    sym c.loop-kind.invariant ∙ ap (λ ys. value_of c.args.name.now (map kind_pair ys)) (all_dropped c.args.all.now c.loop-kind.kind-index c.loop-kind-test.false) ∙ value_none c.args.name.now
