use Rattle.std.proofs.Common.{ℕ, List, subst}
use Rattle.py_value.specs.Comparison.{most_levels}
use Rattle.py_value.specs.HeapView.{plain_heap}
use Rattle.py_value.specs.View.{plain}
use Rattle.py_builtins.specs.Texts.{str_text, text_within}
use Rattle.py_builtins.specs.Written.{IsWritten}
use Rattle.py_builtins.proofs.texts.str_of.Goals as goal

pub returns : goal.returns
unfolding str_text
returns c =
    let w = text_within most_levels (plain_heap c.args.heap.now) (plain c.args.value.now) in
    let P : List ℕ → Type 0 = λ s. IsWritten c.text-written.result s c.text-written.new.out.text w in
    c.answer.ensures w (subst P c.new-out.ensures c.text-written.ensures)
