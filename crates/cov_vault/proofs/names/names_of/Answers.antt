use Rattle.std.proofs.Common.{rules, ◌≡◌, ◌+◌, ◌<◌, ◌≤◌, String, map, drop, ap, sym, ◌∙◌, string_bytes, length, get_or}
use Rattle.std.specs.List.{fold}
use Rattle.std.specs.BTreeSet.{insert_key}
use Rattle.std.specs.declared.alloc.Global.{Global}
use Rattle.cov_data.specs.DataSet.{Text, text_cmp}
use Rattle.cov_data.specs.Rows.{distinct_in_order}
use Rattle.cov_vault.proofs.Named.{names-insert_key, next_pair, no_pairs, names_listed}
use Rattle.cov_vault.proofs.names.names_of.Goals as goal

abbrev name_of : {X : Type 0} → String Global × X → Text
name_of e = string_bytes e.0

pub loop-pair-preserved : goal.loop-pair-preserved
loop-pair-preserved g c =
    let i = c.loop-pair.pair-index in
    let pairs = c.args.pairs.now in
    let had = map string_bytes c.loop-pair.names.keys in
    let later = map name_of (drop (i + 1) pairs) in
    let low : i < length pairs = search (rules, c.loop-pair-test.true) in
    let item : c.pair-item.result ≡ get_or pairs i c.pair-item.result = search (rules, c.pair-item.is) in
    ap (λ ks. fold (insert_key text_cmp) (map string_bytes ks) later) c.in_ok-insert.ensures.keys
    ∙ ap (λ ks. fold (insert_key text_cmp) ks later) (names-insert_key c.in_ok-clone.field-0 c.loop-pair.names.keys)
    ∙ ap (λ k. fold (insert_key text_cmp) (insert_key text_cmp had k) later) (search rules)
    ∙ ap (λ ps. fold (insert_key text_cmp) had (map name_of ps)) (sym (next_pair pairs i c.pair-item.result low item)) ∙ c.loop-pair.invariant

pub returns : goal.returns
returns g c =
    let pairs = c.args.pairs.now in
    let i = c.loop-pair.pair-index in
    let end : length pairs ≤ i = search (rules, c.loop-pair-test.false) in
    let all : map string_bytes c.loop-pair.names.keys ≡ distinct_in_order text_cmp (map name_of pairs) =
    ap (λ ps. fold (insert_key text_cmp) (map string_bytes c.loop-pair.names.keys) (map name_of ps)) (sym (no_pairs pairs i end)) ∙ c.loop-pair.invariant in
    names_listed c.listed.result c.loop-pair.names.keys _ all c.listed.ensures
