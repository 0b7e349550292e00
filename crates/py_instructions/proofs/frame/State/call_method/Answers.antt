use Rattle.std.proofs.Common.{refl, ap, ◌∙◌}
use Rattle.py_value.specs.HeapView.{plain_heap}
use Rattle.py_value.specs.View.{plain, plains}
use Rattle.py_builtins.specs.Methods.{method_of}
use Rattle.py_code.specs.Loaded.{modules_of}
use Rattle.py_instructions.proofs.Made.{called}
use Rattle.py_instructions.proofs.frame.State.call_method.Goals as goal

pub returns : goal.returns
returns c =
    let m = c.args.self.now in
    let s = c.args.store.now in
    called (modules_of c.args.programs.now) m (record m { spare = c.emptied.result }) c.push_answer.new.self s c.call_method.new.heap (method_of c.args.method (plain c.args.on) (plains c.args.values.items) (plain_heap s.heap)) c.in_ok-answer.answer
    (λ o. refl) (c.in_ok-answer.ensures.answer ∙ ap (λ vs. method_of c.args.method (plain c.args.on) (plains vs) (plain_heap s.heap)) c.deref.ensures.value) c.in_ok-answer.ensures.raised c.push_answer.result c.push_answer.ensures
