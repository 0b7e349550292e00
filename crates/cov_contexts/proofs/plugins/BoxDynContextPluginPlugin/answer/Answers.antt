use Rattle.cov_contexts.proofs.Moving.{moved_box, kept_box}
use Rattle.cov_contexts.proofs.plugins.BoxDynContextPluginPlugin.answer.Goals as goal

pub returns-clause-moved : goal.returns-clause-moved
returns-clause-moved g c =
    moved_box
    _
    (λ v x. record c.args.self.now { vtable = v; value = x })
    (λ v x a w. (goal.ContextPlugin-dyn g (v, x)).moves x c.args.module.now c.args.function.now a w)
    c.context.result
    _
    _
    c.deref_box_mut-1.ensures.value.1
    c.context.new.self
    c.context.ensures.0

pub returns-clause-kept : goal.returns-clause-kept
returns-clause-kept g c =
    kept_box
    _
    (λ v x. record c.args.self.now { vtable = v; value = x })
    c.context.result
    _
    _
    c.deref_box_mut-1.ensures.value.1
    c.context.new.self
    c.context.ensures.1
