use Rattle.std.proofs.lemmas.Grind.{common_steps}
use Rattle.std.proofs.Common.{◌<◌, ◌++◌, ◌∷◌, [], length, arith}
use Rattle.py_value.specs.View.{plain}
use Rattle.py_value.specs.Heaps.{with_items}
use Rattle.py_value.proofs.Changes.{changed, unchanged, on_err}
use Rattle.py_value.proofs.heap.Heap.push.Goals as goal

pub returns-in_ok-push-clause-ok : goal.returns-in_ok-push-clause-ok
returns-in_ok-push-clause-ok c =
    let inside : c.args.list.place < length c.args.self.now.objects.items = omega arith in
    changed (with_items (λ vs. vs ++ plain c.args.value ∷ [])) c.args.self.now.objects.items c.args.list.place c.index_mut.result.now c.push.new.self inside c.index_mut.ensures.value c.in_ok-push.ensures.ok

pub returns-in_err-push-clause-err : goal.returns-in_err-push-clause-err
returns-in_err-push-clause-err c =
    let inside : c.args.list.place < length c.args.self.now.objects.items = omega arith in
    on_err _ _ (unchanged c.args.self.now.objects.items c.args.list.place c.index_mut.result.now c.push.new.self inside c.index_mut.ensures.value c.in_err-push.ensures.err)

pub returns-else-list-len-clause-ok : goal.returns-else-list-len-clause-ok
returns-else-list-len-clause-ok c = grind (arith, common_steps)
