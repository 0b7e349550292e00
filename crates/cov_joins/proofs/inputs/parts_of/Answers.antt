use Rattle.std.proofs.Common.{◌++◌, codes, sym, ap, ◌∙◌, string_bytes, lit<}
use Rattle.cov_step.specs.Phases.{is_part_of}
use Rattle.cov_joins.proofs.Finding.{part-so, part-kept, part-left}
use Rattle.cov_joins.proofs.inputs.parts_of.Goals as goal

pub loop-name-preserved-in-Continue-branch-3 : goal.loop-name-preserved-in-Continue-branch-3
loop-name-preserved-in-Continue-branch-3 c =
    let dotted = c.as_str.ensures.value ∙ c.in_ok-push.ensures.bytes ∙ ap (λ dot. string_bytes c.in_ok-start.start ++ dot) (c.in_ok-push.ensures.ascii (lit< tt)) ∙ ap (λ own. own ++ codes ".") c.in_ok-start.ensures.ok in
    let tested = part-so c.starts_with.result c.deref.result.now c.as_str.result.now c.args.own.now c.starts_with.ensures.cases dotted in
    part-kept c.args.own.now c.loop-name.parts.items c.loop-name.yielded c.in-Some.name c.loop-name.invariant _ c.in_ok-push-2.ensures.items
    (ap (is_part_of c.args.own.now) (sym c.deref.ensures) ∙ sym tested ∙ c.if-starts_with.true)

pub loop-name-preserved : goal.loop-name-preserved
loop-name-preserved c =
    let dotted = c.as_str.ensures.value ∙ c.in_ok-push.ensures.bytes ∙ ap (λ dot. string_bytes c.in_ok-start.start ++ dot) (c.in_ok-push.ensures.ascii (lit< tt)) ∙ ap (λ own. own ++ codes ".") c.in_ok-start.ensures.ok in
    let tested = part-so c.starts_with.result c.deref.result.now c.as_str.result.now c.args.own.now c.starts_with.ensures.cases dotted in
    part-left c.args.own.now c.loop-name.parts.items c.loop-name.yielded c.in-Some.name c.loop-name.invariant
    (ap (is_part_of c.args.own.now) (sym c.deref.ensures) ∙ sym tested ∙ c.if-starts_with.false)
