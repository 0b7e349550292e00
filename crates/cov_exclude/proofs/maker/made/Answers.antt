use Rattle.std.proofs.Common.{refl}
use Rattle.cov_exclude.proofs.Matching.{no_pattern}
use Rattle.cov_exclude.proofs.maker.made.Goals as goal

pub returns-in-Err-Syntax-clause-no_pattern : goal.returns-in-Err-Syntax-clause-no_pattern
returns-in-Err-Syntax-clause-no_pattern c _ =
    let facts = rw c.in-Err-Syntax.field-0-is at c.in-Err-Syntax.ensures.by_grammar in
    let kind = rw c.in-Err-Syntax.field-0-is at c.in-Err-Syntax.ensures.kind in
    no_pattern c.args.text.now c.in-Err-Syntax.field-0-0.kind (facts c.in-Err-Syntax.field-0-0 refl) kind
