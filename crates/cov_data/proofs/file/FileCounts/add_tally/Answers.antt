use Rattle.std.proofs.Common.{◌≡◌, Some, None, ap, sym, ◌∙◌, refl, string_bytes}
use Rattle.std.specs.Option.{option_copied_mut}
use Rattle.std.specs.BTreeMap.{get_by_text}
use Rattle.std.specs.FinMap.{insert}
use Rattle.std.proofs.lemmas.Result.{on_ok_weaker, IfOk-at_ok}
use Rattle.cov_data.specs.Stored.{no_counts, both_counts, file_with, file_from, add_under}
use Rattle.cov_data.proofs.FilesViews.{texts_from, held, absent, written, files_from-insert_entry}
use Rattle.cov_data.proofs.Merging.{counts-none}
use Rattle.cov_data.proofs.Nested.{counts_in, file_with-under}
use Rattle.cov_data.proofs.file.FileCounts.add_tally.Goals as goal

pub returns-in-Some : goal.returns-in-Some
returns-in-Some c =
    let p = c.args.context.now in
    let M = texts_from c.self.inside.contexts.entries in
    let old = c.in-Some.mine.now in
    let found : get_by_text c.self.inside.contexts p ≡ Some old = sym c.get_mut.ensures.value ∙ ap option_copied_mut c.in-Some.is in
    let here : counts_in M p ≡ old = held c.self.inside.contexts M p refl no_counts old found in
    record {
      ok = on_ok_weaker c.merge.result (λ e.
          ap file_with (written c.self.inside.contexts M p refl old c.merge.new.self found (c.get_mut.follows.lender c.merge.new.self) (c.get_mut.follows.holds c.merge.new.self))
          ∙ ap (λ t. file_with (insert M p t)) (e ∙ ap (λ t. both_counts t c.args.tally.now) (sym here))
          ∙ file_with-under M p c.args.tally.now
          ∙ ap (λ f. add_under f p c.args.tally.now) c.self.view_is) c.merge.ensures.ok;
    }

pub returns-in_ok-insert-in-None : goal.returns-in_ok-insert-in-None
returns-in_ok-insert-in-None c =
    let p = c.args.context.now in
    let M = texts_from c.self.inside.contexts.entries in
    let t = c.in_ok-mine-in-None.mine in
    let found : get_by_text c.self.inside.contexts p ≡ None = sym c.get_mut.ensures.value ∙ ap option_copied_mut c.in-None.is in
    let here : counts_in M p ≡ no_counts = absent c.self.inside.contexts M p refl no_counts found in
    let key : string_bytes c.in_ok-key-in-None.key ≡ p = IfOk-at_ok (λ s. string_bytes s ≡ p) c.in_ok-key-in-None.was c.from_str.ensures.ok in
    record {
      ok = ap file_from c.in_ok-insert-in-None.ensures.entries
          ∙ ap file_with (files_from-insert_entry c.in_ok-key-in-None.key t c.get_mut.follows.lender-at-none.entries)
          ∙ ap (λ m. file_with (insert (texts_from m.entries) (string_bytes c.in_ok-key-in-None.key) t)) c.get_mut.follows.holds-at-none
          ∙ ap (λ q. file_with (insert M q t)) key
          ∙ ap (λ t. file_with (insert M p t)) (c.in_ok-mine-in-None.ensures ∙ sym (counts-none c.args.tally.now) ∙ ap (λ m. both_counts m c.args.tally.now) (sym here))
          ∙ file_with-under M p c.args.tally.now
          ∙ ap (λ f. add_under f p c.args.tally.now) c.self.view_is;
    }
