use Rattle.std.proofs.Common.{◌≡◌, sym, ap, ◌∙◌, rules}
use Rattle.py_value.specs.Shared.{plains}
use Rattle.py_value.specs.Plain.{listed, packed}
use Rattle.py_value.proofs.Levels.{listed-packed}
use Rattle.py_value.proofs.shared.Items.as_slice.Goals as goal

pub returns-clause-items : goal.returns-clause-items
returns-clause-items c =
    let e : packed (plains c.as_slice.result.now) ≡ c.args.self.now = search rules in
    sym (listed-packed (plains c.as_slice.result.now)) ∙ ap listed e
