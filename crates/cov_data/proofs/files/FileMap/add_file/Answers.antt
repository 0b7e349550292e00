use Rattle.std.proofs.Common.{◌≡◌, Some, None, ap, sym, ◌∙◌, string_bytes}
use Rattle.std.specs.Option.{option_copied_mut}
use Rattle.std.specs.BTreeMap.{get_by_text}
use Rattle.std.specs.FinMap.{insert}
use Rattle.std.proofs.lemmas.Result.{on_ok_weaker, IfOk-at_ok}
use Rattle.cov_data.specs.DataSet.{merged}
use Rattle.cov_data.specs.Stored.{files_from}
use Rattle.cov_data.proofs.FilesViews.{file_in-held, file_in-absent, written, files_from-insert_entry}
use Rattle.cov_data.proofs.files.FileMap.add_file.Goals as goal

pub returns-in-Some : goal.returns-in-Some
returns-in-Some c =
    let p = c.args.path.now in
    let M = c.args.self.now in
    let old = c.in-Some.mine.now in
    let found : get_by_text c.self.inside.files p ≡ Some old = sym c.get_mut.ensures.value ∙ ap option_copied_mut c.in-Some.is in
    let here = file_in-held c.self.inside.files M p c.self.view_is old found in
    record {
      ok = on_ok_weaker c.merge.result (λ e.
          written c.self.inside.files M p c.self.view_is old c.merge.new.self found (c.get_mut.follows.lender c.merge.new.self) (c.get_mut.follows.holds c.merge.new.self)
          ∙ ap (insert M p) (e ∙ ap (λ f. merged f c.args.file.now) (sym here))) c.merge.ensures.ok;
    }

pub returns-in_ok-insert-in-None : goal.returns-in_ok-insert-in-None
returns-in_ok-insert-in-None c =
    let p = c.args.path.now in
    let M = c.args.self.now in
    let found : get_by_text c.self.inside.files p ≡ None = sym c.get_mut.ensures.value ∙ ap option_copied_mut c.in-None.is in
    let here = file_in-absent c.self.inside.files M p c.self.view_is found in
    let key : string_bytes c.in_ok-key-in-None.key ≡ p = IfOk-at_ok (λ s. string_bytes s ≡ p) c.in_ok-key-in-None.was c.from_str.ensures.ok in
    record {
      ok = ap files_from c.in_ok-insert-in-None.ensures.entries
          ∙ files_from-insert_entry c.in_ok-key-in-None.key c.merge-in-None.new.self c.get_mut.follows.lender-at-none.entries
          ∙ ap (λ m. insert m (string_bytes c.in_ok-key-in-None.key) c.merge-in-None.new.self) (ap (λ m. files_from m.entries) c.get_mut.follows.holds-at-none ∙ c.self.view_is)
          ∙ ap (λ q. insert M q c.merge-in-None.new.self) key
          ∙ ap (insert M p) (c.in_ok-merge-in-None.ensures.ok ∙ ap (λ f. merged f c.args.file.now) (c.new-mine.ensures ∙ sym here));
    }
