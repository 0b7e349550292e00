use Rattle.std.proofs.Common.{take, sym, subst}
use Rattle.std.proofs.lemmas.List.{take_all}
use Rattle.std.proofs.lemmas.List.Elements.{All-map, All-more, All-same}
use Rattle.cov_recorder.specs.declared.names.UnitName.{UnitName}
use Rattle.cov_recorder.specs.Plan.{Named, IsFirst, named}
use Rattle.cov_mutate.proofs.unchanged.have_lines.Goals as goal

pub loop-name-preserved : goal.loop-name-preserved
loop-name-preserved c =
    All-more (λ (n : UnitName). IsFirst n.first) c.args.names.now c.loop-name.name-index c.name-item.result c.loop-name-test.true c.loop-name.invariant
    (subst (λ (n : UnitName). IsFirst n.first) c.name-item.is (c.if-name-lt1.false, c.if-name-gt65535.false))

pub returns : goal.returns
returns c = λ yes.
    All-map (λ (n : Named). IsFirst n.first) named c.args.names.now
    (All-same (λ (n : UnitName). IsFirst n.first) c.args.names.now (take c.loop-name.name-index c.args.names.now) (sym (take_all c.loop-name.name-index c.args.names.now c.loop-name-test.false)) c.loop-name.invariant)
