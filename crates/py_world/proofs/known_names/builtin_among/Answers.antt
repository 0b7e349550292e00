use Rattle.std.proofs.Common.{◌++◌, get_or, map, ap, sym, ◌∙◌}
use Rattle.py_value.specs.declared.builtin.Builtin.TheVariants.{Print}
use Rattle.py_value.specs.Plain.{builtin_value}
use Rattle.py_builtins.specs.Displays.{builtin_name}
use Rattle.py_builtins.specs.Predefined.{builtin_pair}
use Rattle.py_builtins.specs.World.{value_of}
use Rattle.py_world.proofs.SetNames.{value_here, value_next}
use Rattle.py_world.proofs.Walked.{get_or_any, drop_here}
use Rattle.py_world.proofs.known_names.builtin_among.Goals as goal

pub returns-then-is_builtin : goal.returns-then-is_builtin
returns-then-is_builtin c =
    λ ns.
    let x = get_or c.args.all.now c.loop-which.which-index Print in
    let at = get_or_any c.args.all.now c.loop-which.which-index Print x c.loop-which-test.true in
    sym (c.loop-which.invariant ns)
    ∙ ap (λ ys. value_of c.args.name.now (map builtin_pair ys ++ ns)) (drop_here c.args.all.now c.loop-which.which-index x c.loop-which-test.true at)
    ∙ value_here c.args.name.now (builtin_name x) (builtin_value x) _ (sym c.is_builtin.ensures ∙ c.if-is_builtin.true)

pub loop-which-preserved : goal.loop-which-preserved
loop-which-preserved c =
    λ ns.
    let x = get_or c.args.all.now c.loop-which.which-index Print in
    let at = get_or_any c.args.all.now c.loop-which.which-index Print x c.loop-which-test.true in
    sym (ap (λ ys. value_of c.args.name.now (map builtin_pair ys ++ ns)) (drop_here c.args.all.now c.loop-which.which-index x c.loop-which-test.true at)
    ∙ value_next c.args.name.now (builtin_name x) (builtin_value x) _ (sym c.is_builtin.ensures ∙ c.if-is_builtin.false))
    ∙ c.loop-which.invariant ns
