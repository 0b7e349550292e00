use Rattle.std.proofs.lemmas.Grind.{common_steps}
use Rattle.std.proofs.Common.{◌<◌, length, arith}
use Rattle.py_value.specs.View.{plain}
use Rattle.py_value.specs.Heaps.{with_pairs}
use Rattle.py_value.specs.Keys.{with_value}
use Rattle.py_value.proofs.Changes.{changed, unchanged, on_err}
use Rattle.py_value.proofs.heap.Heap.set_value.Goals as goal

pub returns-in_ok-set_value-clause-ok : goal.returns-in_ok-set_value-clause-ok
returns-in_ok-set_value-clause-ok c =
    let inside : c.args.dict.place < length c.args.self.now.objects.items = omega arith in
    changed (with_pairs (with_value (plain c.args.key) (plain c.args.value))) c.args.self.now.objects.items c.args.dict.place c.index_mut.result.now c.set_value.new.self inside c.index_mut.ensures.value c.in_ok-set_value.ensures.ok

pub returns-in_err-set_value-clause-err : goal.returns-in_err-set_value-clause-err
returns-in_err-set_value-clause-err c =
    let inside : c.args.dict.place < length c.args.self.now.objects.items = omega arith in
    on_err _ _ (unchanged c.args.self.now.objects.items c.args.dict.place c.index_mut.result.now c.set_value.new.self inside c.index_mut.ensures.value c.in_err-set_value.ensures.err)

pub returns-else-dict-len-clause-ok : goal.returns-else-dict-len-clause-ok
returns-else-dict-len-clause-ok c = grind (arith, common_steps)
