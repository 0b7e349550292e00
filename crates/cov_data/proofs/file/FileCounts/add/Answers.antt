use Rattle.std.proofs.Common.{◌≡◌, Some, None, refl, ap, sym, ◌∙◌, string_bytes, ℤ}
use Rattle.std.specs.Option.{option_copied_mut}
use Rattle.std.specs.BTreeMap.{get_by_text}
use Rattle.std.specs.FinMap.{insert}
use Rattle.std.proofs.lemmas.Result.{on_ok_weaker, on_err_weaker}
use Rattle.cov_data.specs.DataSet.{add_count}
use Rattle.cov_data.specs.Stored.{no_counts, add_at, file_with, file_from}
use Rattle.cov_data.proofs.FilesViews.{texts_from, held, absent, written, kept, files_from-insert_entry}
use Rattle.cov_data.proofs.Nested.{counts_in, file_with-add}
use Rattle.cov_data.proofs.file.FileCounts.add.Goals as goal

pub returns-in-Some-clause-ok : goal.returns-in-Some-clause-ok
returns-in-Some-clause-ok c =
    let p = c.as_str.result.now in
    let k : ℤ × ℤ = c.args.place.numbers in
    let n = c.args.count in
    let M = texts_from c.self.inside.contexts.entries in
    let old = c.in-Some.tally.now in
    let found : get_by_text c.self.inside.contexts p ≡ Some old = sym c.get_mut.ensures.value ∙ ap option_copied_mut c.in-Some.is in
    let here : counts_in M p ≡ old = held c.self.inside.contexts M p refl no_counts old found in
    on_ok_weaker c.add.result (λ e.
    ap file_with (written c.self.inside.contexts M p refl old c.add.new.self found (c.get_mut.follows.lender c.add.new.self) (c.get_mut.follows.holds c.add.new.self))
    ∙ ap (λ t. file_with (insert M p t)) (e ∙ ap (λ t. add_at t k n) (sym here))
    ∙ file_with-add M p k n
    ∙ (λ i. add_count (c.self.view_is i) (c.as_str.ensures.value i, k) n)) c.add.ensures.ok

pub returns-in-Some-clause-err : goal.returns-in-Some-clause-err
returns-in-Some-clause-err c =
    let p = c.as_str.result.now in
    let M = texts_from c.self.inside.contexts.entries in
    let old = c.in-Some.tally.now in
    let lender = c.get_mut.follows.lender in
    let found : get_by_text c.self.inside.contexts p ≡ Some old = sym c.get_mut.ensures.value ∙ ap option_copied_mut c.in-Some.is in
    on_err_weaker c.add.result (λ e. ap (λ f. file_from (lender f).entries) e
    ∙ ap file_with (kept c.self.inside.contexts M p refl old found (lender old) (c.get_mut.follows.holds old)) ∙ c.self.view_is) c.add.ensures.err

pub returns-in_ok-insert-in-None-clause-ok : goal.returns-in_ok-insert-in-None-clause-ok
returns-in_ok-insert-in-None-clause-ok c =
    let p = c.as_str.result.now in
    let k : ℤ × ℤ = c.args.place.numbers in
    let n = c.args.count in
    let M = texts_from c.self.inside.contexts.entries in
    let t = c.add-in-None.new.self in
    let found : get_by_text c.self.inside.contexts p ≡ None = sym c.get_mut.ensures.value ∙ ap option_copied_mut c.in-None.is in
    let here : counts_in M p ≡ no_counts = absent c.self.inside.contexts M p refl no_counts found in
    ap file_from c.in_ok-insert-in-None.ensures.entries
    ∙ ap file_with (files_from-insert_entry c.args.place.context t c.get_mut.follows.lender-at-none.entries)
    ∙ ap (λ m. file_with (insert (texts_from m.entries) (string_bytes c.args.place.context) t)) c.get_mut.follows.holds-at-none
    ∙ ap (λ q. file_with (insert M q t)) (sym c.as_str.ensures.value)
    ∙ ap (λ t. file_with (insert M p t)) (c.in_ok-add-in-None.ensures.ok ∙ ap (λ t. add_at t k n) (c.new-tally.ensures ∙ sym here))
    ∙ file_with-add M p k n
    ∙ (λ i. add_count (c.self.view_is i) (c.as_str.ensures.value i, k) n)
