use Rattle.cov_mutates.proofs.Writing.{line-is, text-is}
use Rattle.cov_mutates.proofs.lines.mutant_line.Goals as goal

pub returns : goal.returns
returns c =
    text-is c.format.result _ _ c.format.ensures.ok
    (line-is c.args.number c.args.path.now _ _ _ c.args.mutant.now c.utf8.path c.as_str-old.ensures.value c.as_str-new.ensures.value c.verdict_text-verdict.ensures)
