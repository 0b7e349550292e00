use Rattle.std.proofs.Common.{ap, sym, ◌∙◌}
use Rattle.py_value.specs.Objects.{plain_object}
use Rattle.py_value.specs.View.{plain, plains}
use Rattle.py_value.specs.Plain.{list_object}
use Rattle.py_value.specs.Heaps.{without}
use Rattle.py_value.proofs.DistinctKeys.{map-remove}
use Rattle.py_value.proofs.heap.Object.take.Goals as goal

pub returns-in-List-clause-taken : goal.returns-in-List-clause-taken
returns-in-List-clause-taken c =
    ap list_object (ap plains c.remove.ensures.items ∙ map-remove plain c.in-List.items.items c.args.at)
    ∙ sym (ap (λ o. without c.args.at (plain_object o)) c.in-List.is)
