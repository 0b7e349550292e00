use Rattle.std.proofs.Common.{map, refl, ap, sym, ◌∙◌, string_bytes}
use Rattle.std.specs.List.{flat_map}
use Rattle.std.proofs.lemmas.List.Folds.{flat_map-map}
use Rattle.cov_suite.specs.Rows.{path_lines}
use Rattle.cov_suite.specs.Views.{line_of}
use Rattle.cov_suite.proofs.Walks.{added_all}
use Rattle.cov_suite.proofs.data_lines.lines_in.Goals as goal

pub returns : goal.returns
returns c =
    let d = c.args.rows.now in
    let all = c.deref-path-items.result.now in
    added_all (λ path. path_lines d (string_bytes path)) (flat_map (λ path. path_lines d (string_bytes path))) refl all c.loop-path.path-index (map line_of c.loop-path.lines.items) _ c.loop-path-test.false c.loop-path.invariant
    ∙ sym (flat_map-map (path_lines d) string_bytes all)
    ∙ ap (flat_map (path_lines d)) (ap (map string_bytes) c.deref-path-items.ensures.value ∙ c.in_ok-paths.ensures)
