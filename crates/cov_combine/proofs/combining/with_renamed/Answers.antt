use Rattle.std.proofs.Common.{map, ap, ◌∙◌, string_bytes}
use Rattle.std.specs.List.{fold}
use Rattle.std.proofs.lemmas.List.{take_all}
use Rattle.cov_data.specs.DataSet.{with_file, file_of}
use Rattle.cov_combine.specs.Aliases.{alias_of}
use Rattle.cov_combine.proofs.Unions.{with_renamed-paths}
use Rattle.cov_combine.proofs.combining.with_renamed.Goals as goal

pub returns : goal.returns
returns c =
    let alias = alias_of c.args.rules.now in
    let input = c.args.input.now in
    c.loop-path.invariant.so_far
    ∙ ap (fold (λ m p. with_file m (alias p) (file_of input p)) c.args.all)
    (ap (map string_bytes) (take_all _ _ c.loop-path-test.false ∙ c.deref-path-items.ensures.value) ∙ c.in_ok-paths.ensures)
    ∙ with_renamed-paths alias input c.args.all
