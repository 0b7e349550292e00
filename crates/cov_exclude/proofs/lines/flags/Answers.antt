use Rattle.std.proofs.Common.{◌∙◌, arith}
use Rattle.std.proofs.lemmas.List.{with_items_is}
use Rattle.cov_exclude.specs.Views.{texts_view}
use Rattle.cov_exclude.proofs.Flags.{one-pattern, no-pattern-yet}
use Rattle.cov_exclude.proofs.lines.flags.Goals as goal

pub loop-regex-init : goal.loop-regex-init
loop-regex-init c = c.in_ok-flags.ensures.items_if_clones_equal (λ flag same. same) ∙ no-pattern-yet c.args.texts.now

pub loop-regex-preserved : goal.loop-regex-preserved
loop-regex-preserved c =
    with_items_is c.loop-regex.flags c.flag_texts.new.flags (omega (arith, c.flag_texts.auto.flags, c.deref_mut.ensures.len))
    ∙ one-pattern c.args.made.now c.loop-regex.regex-index c.regex-item.result (texts_view c.args.texts.now) c.deref_mut.result.now c.flag_texts.new.flags (omega arith) c.regex-item.is
    (c.deref_mut.ensures.value ∙ c.loop-regex.invariant) c.in_ok-flag_texts.ensures
