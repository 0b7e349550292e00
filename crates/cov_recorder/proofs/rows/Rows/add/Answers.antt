use Rattle.std.proofs.Common.{◌≡◌, ◌<◌, length, map, ap, ◌∙◌, string_bytes, arith}
use Rattle.std.specs.FinMap.{insert}
use Rattle.std.proofs.lemmas.Result.{IfOk-at_ok}
use Rattle.cov_recorder.specs.declared.rows.Counters.{Counters}
use Rattle.cov_recorder.specs.Counters.{no_counts}
use Rattle.cov_recorder.specs.Rows.{row_from}
use Rattle.cov_recorder.proofs.Counting.{AreIndexed-pushed, AreIndexed-insert, has_new}
use Rattle.cov_recorder.proofs.rows.Rows.add.Goals as goal

pub invariant_of-self-in_default : goal.invariant_of-self-in_default
invariant_of-self-in_default c =
    let rows = c.self.inside.rows.items in
    let all = c.push.new.self.items in
    let row = c.in_ok-row.row in
    let label = c.args.label.now in
    let at : c.len-number.result ≡ length c.self.inside.rows.items = omega (arith, c.len-number.ensures) in
    let made : row_from row ≡ no_counts c.args.module label c.args.size = IfOk-at_ok (λ (r : Counters). row_from r ≡ no_counts c.args.module label c.args.size) c.in_ok-row.was c.no_counts.ensures in
    let key : string_bytes c.in_ok-key.key ≡ label = IfOk-at_ok (λ s. string_bytes s ≡ label) c.in_ok-key.was c.from_str.ensures.ok in
    let within : c.args.module < length c.self.inside.numbers.items = omega (arith, c.if-place-len.true, c.len.ensures) in
    let old = c.index_mut.result.now in
    AreIndexed-insert c.self.inside.numbers.items (map row_from all) c.args.module old c.insert.new.self label c.len-number.result within c.index_mut.ensures.value
    (c.in_default.ensures.ok ∙ ap (λ k. insert old k c.len-number.result) key)
    (has_new rows all row c.in_ok-push.ensures.items c.len-number.result c.args.module label c.args.size made at)
    (AreIndexed-pushed c.self.inside.numbers.items rows all row c.in_ok-push.ensures.items c.self.invariant)

pub invariant_of-self-else-place-len : goal.invariant_of-self-else-place-len
invariant_of-self-else-place-len c = AreIndexed-pushed c.self.inside.numbers.items c.self.inside.rows.items c.push.new.self.items c.in_ok-row.row c.in_ok-push.ensures.items c.self.invariant

pub returns-in_default-clause-row : goal.returns-in_default-clause-row
returns-in_default-clause-row c =
    let label = c.args.label.now in
    let at : c.len-number.result ≡ length c.self.inside.rows.items = omega (arith, c.len-number.ensures) in
    let made : row_from c.in_ok-row.row ≡ no_counts c.args.module label c.args.size = IfOk-at_ok (λ (r : Counters). row_from r ≡ no_counts c.args.module label c.args.size) c.in_ok-row.was c.no_counts.ensures in
    has_new c.self.inside.rows.items c.push.new.self.items c.in_ok-row.row c.in_ok-push.ensures.items c.len-number.result c.args.module label c.args.size made at

pub returns-else-place-len-clause-row : goal.returns-else-place-len-clause-row
returns-else-place-len-clause-row c =
    let label = c.args.label.now in
    let at : c.len-number.result ≡ length c.self.inside.rows.items = omega (arith, c.len-number.ensures) in
    let made : row_from c.in_ok-row.row ≡ no_counts c.args.module label c.args.size = IfOk-at_ok (λ (r : Counters). row_from r ≡ no_counts c.args.module label c.args.size) c.in_ok-row.was c.no_counts.ensures in
    has_new c.self.inside.rows.items c.push.new.self.items c.in_ok-row.row c.in_ok-push.ensures.items c.len-number.result c.args.module label c.args.size made at
