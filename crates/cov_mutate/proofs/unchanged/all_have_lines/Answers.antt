use Rattle.std.proofs.Common.{All, List, map, take, Vec, sym, subst}
use Rattle.std.specs.declared.alloc.Global.{Global}
use Rattle.std.proofs.lemmas.List.{take_all}
use Rattle.std.proofs.lemmas.List.Elements.{All-map, All-more, All-same}
use Rattle.cov_recorder.specs.declared.names.UnitName.{UnitName}
use Rattle.cov_recorder.specs.Plan.{Named, IsFirst, named}
use Rattle.cov_mutate.proofs.unchanged.all_have_lines.Goals as goal

abbrev Begins : List Named → Type 0
Begins names = All (λ n. IsFirst n.first) names

abbrev of_vec : Vec UnitName Global → List Named
of_vec ns = map named ns.items

pub loop-names-preserved : goal.loop-names-preserved
loop-names-preserved c =
    All-more (λ (ns : Vec UnitName Global). Begins (of_vec ns)) c.args.units.now c.loop-names.names-index c.names-item.result c.loop-names-test.true c.loop-names.invariant
    (subst (λ (ns : Vec UnitName Global). Begins (of_vec ns)) c.names-item.is
    (subst (λ (xs : List UnitName). Begins (map named xs)) c.deref.ensures.value (c.have_lines.ensures c.if-not-have_lines.false)))

pub returns : goal.returns
returns c = λ yes. record {
  firsts =
      All-map Begins of_vec c.args.units.now
      (All-same (λ (ns : Vec UnitName Global). Begins (of_vec ns)) c.args.units.now (take c.loop-names.names-index c.args.units.now) (sym (take_all c.loop-names.names-index c.args.units.now c.loop-names-test.false)) c.loop-names.invariant);
}
