use Rattle.std.proofs.Common.{◌<◌, ◌≤◌, length, ap, sym, ◌∙◌, arith, rules}
use Rattle.cov_arcs.specs.Tracing.{with_arc}
use Rattle.cov_arcs.proofs.Adding.{put-added, put-same, no-module}
use Rattle.cov_arcs.proofs.sets.Sets.add.Goals as goal

pub returns-in_err-insert-clause-err : goal.returns-in_err-insert-clause-err
returns-in_err-insert-clause-err c =
    let within : c.args.module < length c.self.inside.items.items = omega (arith, c.if-place-len.true, c.len.ensures) in
    let same = put-same c.self.inside.items.items c.args.module within c.index_mut.result.now c.insert.new.self c.index_mut.ensures.value c.in_err-insert.ensures.err in
    search (rules, same ∙ c.self.view_is)

pub returns-in_ok-insert-clause-ok : goal.returns-in_ok-insert-clause-ok
returns-in_ok-insert-clause-ok c =
    let within : c.args.module < length c.self.inside.items.items = omega (arith, c.if-place-len.true, c.len.ensures) in
    put-added c.self.inside.items.items c.args.module within c.index_mut.result.now c.insert.new.self c.index_mut.ensures.value c.args.arc c.in_ok-insert.ensures.keys
    ∙ ap (λ sets. with_arc sets c.args.module c.args.arc) c.self.view_is

pub returns-else-place-len-clause-ok : goal.returns-else-place-len-clause-ok
returns-else-place-len-clause-ok c =
    let outside : length c.self.inside.items.items ≤ c.args.module = omega (arith, c.if-place-len.false, c.len.ensures) in
    sym c.self.view_is ∙ no-module c.self.inside.items.items c.args.module outside c.args.arc ∙ ap (λ sets. with_arc sets c.args.module c.args.arc) c.self.view_is
