use Rattle.std.proofs.Common.{◌++◌, codes, ap, ◌∙◌, rules}
use Rattle.std.specs.Str.{IsAscii}
use Rattle.std.proofs.lemmas.Str.{chars-IsAscii}
use Rattle.cov_run.proofs.paths.file_of.Goals as goal

pub returns : goal.returns
returns c =
    let ascii : IsAscii (codes ".py") = search rules in
    c.in_ok-push_str.ensures.ok ∙ ap (λ t. c.append.new.self ++ t) (chars-IsAscii (codes ".py") ascii) ∙ ap (λ t. t ++ codes ".py") (c.in_ok-append.ensures.ok ∙ ap (λ t. t ++ c.args.name.now) c.in_ok-path.ensures)
