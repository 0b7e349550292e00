use Rattle.std.proofs.Common.{ap, sym, ◌∙◌}
use Rattle.py_code.specs.Configurations.{Next}
use Rattle.py_code.specs.Loaded.{modules_of}
use Rattle.py_code.specs.Run.{Goes}
use Rattle.py_value.specs.View.{plain_raised}
use Rattle.py_instructions.specs.View.{Slots, seen}
use Rattle.py_instructions.proofs.TakenValues.{caught_at}
use Rattle.py_instructions.proofs.frame.State.catch.Goals as goal

pub returns-in_ok-push-in-Some-clause-caught : goal.returns-in_ok-push-in-Some-clause-caught
returns-in_ok-push-in-Some-clause-caught c = λ s o out.
    let m = c.args.self.now in
    caught_at (modules_of c.args.programs.now) m c.in-Some.handler _ (sym c.handler_in.ensures ∙ c.in-Some.is) (plain_raised c.args.raised.now) c.args.is_thrown
    c.keep.new.self c.keep.ensures c.in_ok-copy-in-Some.copy c.in_ok-copy-in-Some.ensures s o out
    ∙ ap (λ xs. let n : Next Slots = Goes (seen (record m { top = record m.top { place = c.in-Some.handler.target; operands = xs } }) s o) in n) (sym c.in_ok-push-in-Some.ensures.ok)
