use Rattle.std.proofs.Common.{arith}
use Rattle.cov_sql.proofs.CellLemmas.{zip-next, zip-whole}
use Rattle.cov_sql.proofs.Contexts.{IsCopyOf, texts_alike}
use Rattle.cov_sql.proofs.saved.copied.Goals as goal

pub loop-at-preserved : goal.loop-at-preserved
loop-at-preserved c =
    rw c.in_ok-push.ensures.items
    (zip-next IsCopyOf c.args.texts.now c.loop-at.at c.loop-at.all.items _ c.in_ok-from_str.field-0 (omega arith) c.loop-at.invariant
    c.in_ok-from_str.ensures.ok)

pub returns : goal.returns
returns c = texts_alike c.args.texts.now c.loop-at.all.items (zip-whole IsCopyOf c.args.texts.now c.loop-at.at c.loop-at.all.items (omega arith) c.loop-at.invariant)
