use Rattle.std.proofs.Common.{◌≡◌, refl, ap, ◌∙◌, map, string_bytes}
use Rattle.cov_data.specs.DataSet.{DataSet, file_of, with_file}
use Rattle.cov_suite.proofs.Adding.{file_more, files_more, all-more}
use Rattle.cov_suite.proofs.Walks.{folded_more, folded_all}
use Rattle.cov_suite.proofs.joining.add_data.Goals as goal

pub loop-path-preserved : goal.loop-path-preserved
loop-path-preserved c =
    let other = c.args.other.now in
    let is : c.in_ok-both.both ≡ file_more other c.loop-path.both (string_bytes c.path-item.result) =
    c.in_ok-both.ensures
    ∙ ap (λ path. with_file c.loop-path.both path (file_of other c.as_str-in-loop-path.result.now)) c.as_str.ensures.value
    ∙ ap (λ path. with_file c.loop-path.both (string_bytes c.path-item.result) (file_of other path)) c.as_str-in-loop-path.ensures.value in (
      folded_more (λ d path. file_more other d (string_bytes path)) (files_more other) (λ d y ys. refl) c.deref-path-items.result.now c.loop-path.path-index c.path-item.result c.loop-path.both c.in_ok-both.both
          (files_more other c.args.all c.deref-path-items.result.now) c.loop-path-test.true c.path-item.is is c.loop-path.invariant.0,
      ap (λ (d : DataSet). d.arcs) is ∙ c.loop-path.invariant.1,
    )

pub returns : goal.returns
returns c =
    let other = c.args.other.now in
    let all = c.deref-path-items.result.now in
    folded_all (λ d path. file_more other d (string_bytes path)) (files_more other) (λ d. refl) all c.loop-path.path-index c.loop-path.both (files_more other c.args.all all) c.loop-path-test.false c.loop-path.invariant.0
    ∙ all-more other c.args.all all (ap (λ paths. map string_bytes paths) c.deref-path-items.ensures.value ∙ c.in_ok-paths.ensures)
