use Rattle.std.proofs.Common.{◌≡◌, Some, None, ap, sym, ◌∙◌, string_bytes}
use Rattle.std.specs.Option.{option_copied_mut}
use Rattle.std.specs.BTreeMap.{get_by_text}
use Rattle.std.specs.FinMap.{insert}
use Rattle.std.proofs.lemmas.Result.{on_ok_weaker, on_err_weaker}
use Rattle.cov_data.specs.DataSet.{add_count, add_row}
use Rattle.cov_data.specs.Stored.{place_view, files_from}
use Rattle.cov_data.proofs.FilesViews.{file_in-held, file_in-absent, written, kept, files_from-insert_entry}
use Rattle.cov_data.proofs.files.FileMap.add.Goals as goal

pub returns-in-Some-clause-ok : goal.returns-in-Some-clause-ok
returns-in-Some-clause-ok c =
    let p = c.as_str.result.now in
    let k = place_view c.args.place in
    let M = c.args.self.now in
    let old = c.in-Some.file.now in
    let found : get_by_text c.self.inside.files p ≡ Some old = sym c.get_mut.ensures.value ∙ ap option_copied_mut c.in-Some.is in
    let here = file_in-held c.self.inside.files M p c.self.view_is old found in
    on_ok_weaker c.add.result (λ e.
    written c.self.inside.files M p c.self.view_is old c.add.new.self found (c.get_mut.follows.lender c.add.new.self) (c.get_mut.follows.holds c.add.new.self)
    ∙ ap (insert M p) (e ∙ ap (λ f. add_count f k c.args.count) (sym here))
    ∙ ap (λ q. add_row M q k c.args.count) c.as_str.ensures.value) c.add.ensures.ok

pub returns-in-Some-clause-err : goal.returns-in-Some-clause-err
returns-in-Some-clause-err c =
    let p = c.as_str.result.now in
    let old = c.in-Some.file.now in
    let lender = c.get_mut.follows.lender in
    let found : get_by_text c.self.inside.files p ≡ Some old = sym c.get_mut.ensures.value ∙ ap option_copied_mut c.in-Some.is in
    on_err_weaker c.add.result (λ e. ap (λ f. files_from (lender f).entries) e
    ∙ kept c.self.inside.files c.args.self.now p c.self.view_is old found (lender old) (c.get_mut.follows.holds old)) c.add.ensures.err

pub returns-in_ok-insert-in-None-clause-ok : goal.returns-in_ok-insert-in-None-clause-ok
returns-in_ok-insert-in-None-clause-ok c =
    let p = c.as_str.result.now in
    let k = place_view c.args.place in
    let M = c.args.self.now in
    let found : get_by_text c.self.inside.files p ≡ None = sym c.get_mut.ensures.value ∙ ap option_copied_mut c.in-None.is in
    let here = file_in-absent c.self.inside.files M p c.self.view_is found in
    ap files_from c.in_ok-insert-in-None.ensures.entries
    ∙ files_from-insert_entry c.args.path c.add-in-None.new.self c.get_mut.follows.lender-at-none.entries
    ∙ ap (λ m. insert m (string_bytes c.args.path) c.add-in-None.new.self) (ap (λ m. files_from m.entries) c.get_mut.follows.holds-at-none ∙ c.self.view_is)
    ∙ ap (λ q. insert M q c.add-in-None.new.self) (sym c.as_str.ensures.value)
    ∙ ap (insert M p) (c.in_ok-add-in-None.ensures.ok ∙ ap (λ f. add_count f k c.args.count) (c.new-file.ensures ∙ sym here))
    ∙ ap (λ q. add_row M q k c.args.count) c.as_str.ensures.value
