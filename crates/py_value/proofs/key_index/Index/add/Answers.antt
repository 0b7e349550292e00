use Rattle.std.proofs.Common.{◌≡◌, ◌<◌, ◌%◌, arith, ◌∙◌, ap, length}
use Rattle.py_value.specs.Hashes.{with_place}
use Rattle.py_value.proofs.Hashing.{bucket-added, bucket-kept}
use Rattle.py_value.proofs.Changes.{on_err}
use Rattle.py_value.proofs.key_index.Index.add.Goals as goal

pub returns-in_err-push-clause-err : goal.returns-in_err-push-clause-err
returns-in_err-push-clause-err c = on_err _ _ (bucket-kept c.self.inside.buckets.items _ c.index_mut.result.now c.push.new.self c.index_mut.ensures.value c.in_err-push.ensures.items ∙ c.self.view_is)

pub returns-clause-ok : goal.returns-clause-ok
returns-clause-ok c =
    let filled : 0 < length c.self.inside.buckets.items = omega (arith, c.if-count-eq0.false, c.len-count.ensures) in
    let count : c.len-count.result ≡ length c.self.inside.buckets.items = omega (arith, c.len-count.ensures) in
    bucket-added c.self.inside.buckets.items (c.args.hash % c.len-count.result) c.args.hash c.args.place c.index_mut.result.now c.push.new.self filled (ap (λ n. c.args.hash % n) count) c.index_mut.ensures.value c.in_ok-push.ensures.items
    ∙ ap (λ index. with_place index c.args.hash c.args.place) c.self.view_is
