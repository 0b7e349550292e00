use Rattle.std.proofs.Common.{ap, sym, ◌∙◌, refl, string_bytes}
use Rattle.std.specs.List.{fold}
use Rattle.cov_data.specs.DataSet.{Text, File, merged, rekeyed}
use Rattle.cov_data.specs.Stored.{Counts, add_under}
use Rattle.cov_data.proofs.FilesViews.{texts_from, left_at_start}
use Rattle.cov_data.proofs.Nested.{merged-contexts}
use Rattle.cov_data.proofs.file.FileCounts.merge.Goals as goal

abbrev step : File → Text × Counts → File
step h e = add_under h e.0 e.1

pub loop-context-init : goal.loop-context-init
loop-context-init c =
    let given = c.into_iter-context-iterator.ensures.into_iter_gives in
    let M = texts_from c.other.inside.contexts.entries in
    ap (fold step c.args.self.now) (left_at_start _ _ M refl given.0 given.5)
    ∙ sym (merged-contexts c.args.self.now M) ∙ ap (merged c.args.self.now) c.other.view_is

pub loop-context-preserved : goal.loop-context-preserved
loop-context-preserved c =
    let left = rekeyed string_bytes c.next.new.self in
    ap (λ h. fold step h left) (c.in_ok-add_tally.ensures.ok ∙ ap (λ k. add_under c.loop-context.self k c.in-Some.tally.now) c.as_str.ensures.value)
    ∙ ap (λ xs. fold step c.loop-context.self (rekeyed string_bytes xs)) (sym c.in-Some.ensures.steps) ∙ c.loop-context.invariant

pub returns : goal.returns
returns c = record { ok = ap (λ xs. fold step c.loop-context.self (rekeyed string_bytes xs)) (sym c.in-None.ensures.steps.0) ∙ c.loop-context.invariant }
