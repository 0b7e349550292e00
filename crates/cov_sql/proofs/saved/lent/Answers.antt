use Rattle.std.proofs.Common.{string_bytes, ap, ◌∙◌}
use Rattle.cov_sql.proofs.CellLemmas.{zip-next, zip-whole}
use Rattle.cov_sql.proofs.Contexts.{IsLentOf, lent_alike}
use Rattle.cov_sql.proofs.saved.lent.Goals as goal

pub loop-text-preserved : goal.loop-text-preserved
loop-text-preserved c =
    rw c.in_ok-push.ensures.items
    (zip-next IsLentOf c.args.texts.now c.loop-text.text-index c.loop-text.all.items c.text-item.result c.as_str.result c.loop-text-test.true c.loop-text.invariant
    (c.as_str.ensures.value ∙ ap string_bytes c.text-item.is))

pub returns : goal.returns
returns c = lent_alike c.args.texts.now c.loop-text.all.items (zip-whole IsLentOf c.args.texts.now c.loop-text.text-index c.loop-text.all.items c.loop-text-test.false c.loop-text.invariant)
