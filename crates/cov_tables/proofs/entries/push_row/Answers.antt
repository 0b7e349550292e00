use Rattle.std.proofs.Common.{ap, sym, ◌∙◌, ◌++◌, map, option_map, string_bytes}
use Rattle.std.proofs.lemmas.Result.{on_ok_weaker}
use Rattle.cov_tables.specs.Entries.{entry_view}
use Rattle.cov_tables.specs.Joins.{joined, joined_if}
use Rattle.cov_tables.specs.Kept.{key_view, texts_at}
use Rattle.cov_tables.proofs.entries.push_row.Goals as goal

pub returns-in-Some : goal.returns-in-Some
returns-in-Some c =
    let old = map entry_view c.args.entries.now.items in
    let k = key_view c.in-Some.key in
    let paths = texts_at c.args.files.now in
    let labels = texts_at c.args.contexts.now in
    on_ok_weaker c.push_joined.result (λ e. e
    ∙ ap (λ ps. old ++ joined k ps (map string_bytes c.get-labels.result.now)) c.get-paths.ensures
    ∙ ap (λ ls. old ++ joined k (paths k.file) ls) c.get-labels.ensures
    ∙ ap (λ o. old ++ joined_if (option_map key_view o) paths labels) (sym c.in-Some.is)) c.push_joined.ensures
