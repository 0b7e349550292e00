use Rattle.std.proofs.Common.{[], ℕ, List, subst}
use Rattle.py_value.specs.Comparison.{most_levels}
use Rattle.py_value.specs.HeapView.{plain_heap}
use Rattle.py_value.specs.View.{plain}
use Rattle.py_builtins.specs.Texts.{repr_text, display_within}
use Rattle.py_builtins.specs.Written.{IsWritten}
use Rattle.py_builtins.proofs.texts.repr_of.Goals as goal

pub returns : goal.returns
unfolding repr_text
returns c =
    let w = display_within most_levels (plain_heap c.args.heap.now) [] (plain c.args.value.now) in
    let P : List ℕ → Type 0 = λ s. IsWritten c.display_alone-written.result s c.display_alone-written.new.out.text w in
    c.answer.ensures w (subst P c.new-out.ensures c.display_alone-written.ensures)
