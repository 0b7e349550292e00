use Rattle.std.proofs.Common.{◌≡◌, Err, arith, rules}
use Rattle.std.proofs.lemmas.Grind.{common_steps}
use Rattle.py_value.specs.HeapView.{plain_heap}
use Rattle.py_value.specs.View.{plain, plains}
use Rattle.py_builtins.specs.Methods.{method_name, method_of, no_attribute}
use Rattle.py_builtins.proofs.methods.call_method.Goals as goal

pub returns-in-None-clause-answer : goal.returns-in-None-clause-answer
returns-in-None-clause-answer c =
    let lacks : Err (no_attribute (method_name c.args.which)) ≡ method_of c.args.which (plain c.args.on.now) (plains c.args.args.now) (plain_heap c.args.heap.now) = first_of (search rules, grind (arith, common_steps)) in
    c.lack-in-None.ensures (plain_heap c.args.heap.now) _ lacks
