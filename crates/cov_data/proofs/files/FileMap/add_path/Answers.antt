use Rattle.std.proofs.Common.{◌≡◌, None, ap, sym, ◌∙◌, string_bytes}
use Rattle.std.specs.BTreeMap.{get_by_text}
use Rattle.std.specs.FinMap.{insert}
use Rattle.std.proofs.lemmas.Result.{IfOk-at_ok}
use Rattle.cov_data.specs.Stored.{files_from}
use Rattle.cov_data.proofs.FilesViews.{file_in-absent, files_from-insert_entry}
use Rattle.cov_data.proofs.MapViews.{none_from_is_some}
use Rattle.cov_data.proofs.FilesViews.{add_path-present}
use Rattle.cov_data.proofs.files.FileMap.add_path.Goals as goal

pub returns-then-contains_key-clause-ok : goal.returns-then-contains_key-clause-ok
returns-then-contains_key-clause-ok c =
    sym (add_path-present c.self.inside.files c.args.self.now c.args.path.now c.self.view_is (sym c.contains_key.ensures ∙ c.if-contains_key.true))

pub returns-clause-ok : goal.returns-clause-ok
returns-clause-ok c =
    let p = c.args.path.now in
    let M = c.args.self.now in
    let found : get_by_text c.self.inside.files p ≡ None = none_from_is_some _ (sym c.contains_key.ensures ∙ c.if-contains_key.false) in
    let here = file_in-absent c.self.inside.files M p c.self.view_is found in
    let key : string_bytes c.in_ok-key.key ≡ p = IfOk-at_ok (λ s. string_bytes s ≡ p) c.in_ok-key.was c.from_str.ensures.ok in
    ap files_from c.in_ok-insert.ensures.entries
    ∙ files_from-insert_entry c.in_ok-key.key c.new.result c.self.inside.files.entries
    ∙ ap (λ m. insert m (string_bytes c.in_ok-key.key) c.new.result) c.self.view_is
    ∙ ap (λ q. insert M q c.new.result) key
    ∙ ap (insert M p) (c.new.ensures ∙ sym here)
