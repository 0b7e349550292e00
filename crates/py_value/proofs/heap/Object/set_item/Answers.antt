use Rattle.std.proofs.Common.{ap, sym, ◌∙◌}
use Rattle.std.specs.List.{slice_set}
use Rattle.std.proofs.lemmas.List.{map-set}
use Rattle.py_value.specs.Objects.{plain_object}
use Rattle.py_value.specs.Plain.{list_object}
use Rattle.py_value.specs.View.{plain}
use Rattle.py_value.specs.Heaps.{with_items}
use Rattle.py_value.proofs.heap.Object.set_item.Goals as goal

pub returns-then-at-len : goal.returns-then-at-len
returns-then-at-len c =
    ap list_object (map-set plain c.in-List.items.items c.args.at c.args.value)
    ∙ sym (ap (λ o. with_items (λ vs. slice_set vs c.args.at (plain c.args.value)) (plain_object o)) c.in-List.is)
