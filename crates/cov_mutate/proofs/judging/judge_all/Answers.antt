use Rattle.std.proofs.Common.{◌≡◌, ◌++◌, ◌∷◌, drop, map, length, refl, ap, sym, ◌∙◌, add-one, arith}
use Rattle.cov_data.specs.Rows.{lines_of}
use Rattle.py_changes.specs.Mutants.{module_mutants}
use Rattle.py_syntax.specs.View.{plain_module}
use Rattle.cov_mutate.specs.Code.{judge, judged_all, source_of, sources}
use Rattle.cov_mutate.specs.Meant.{view_of}
use Rattle.cov_mutate.specs.Trials.{tried_of}
use Rattle.cov_mutate.proofs.Sources.{sources-at, past-sources, length-sources, length-code, length-modules}
use Rattle.cov_mutate.proofs.Steps.{module-step, modules-end}
use Rattle.cov_mutate.proofs.judging.judge_all.Goals as goal

pub judge_module-requires-clause-there : goal.judge_module-requires-clause-there
judge_module-requires-clause-there c =
    let ps = c.args.programs.now.modules.items in
    let ts = c.args.modules.now in
    let same : length (tried_of c.loop-m.trial).code ≡ length (sources ps ts) = ap (λ t. length t.code) c.loop-m.invariant.kept ∙ ap length c.requires.code ∙ length-code (sources ps ts) in
    omega (arith, same, length-sources ps ts, c.min-count.ensures, c.len.ensures, c.loop-m-test.true)

pub judge_module-requires-clause-few : goal.judge_module-requires-clause-few
judge_module-requires-clause-few c =
    let ps = c.args.programs.now.modules.items in
    let ts = c.args.modules.now in
    let same : length (tried_of c.loop-m.trial).code ≡ length (sources ps ts) = ap (λ t. length t.code) c.loop-m.invariant.kept ∙ ap length c.requires.code ∙ length-code (sources ps ts) in
    omega (arith, same, length-sources ps ts, length-modules ps, c.requires.few)

pub loop-m-preserved : goal.loop-m-preserved
loop-m-preserved c =
    let ps = c.args.programs.now.modules.items in
    let ts = c.args.modules.now in
    let t = tried_of c.args.trial.now in
    let s = source_of c.index.result.now c.index-modules-m.result in
    record {
      so_far =
          module-step t c.args.rows.now (sources ps ts) (judged_all t c.args.rows.now (sources ps ts)) c.loop-m.m s c.deref.result.now (plain_module c.index-modules-m.result) (map view_of c.loop-m.judged.items) (map view_of c.judge_module.new.judged.items)
          (sources-at ps ts c.loop-m.m c.index.result.now c.index-modules-m.result (omega (arith, c.min-count.ensures, c.len.ensures)) (omega (arith, c.min-count.ensures, c.len.ensures)) c.index.ensures c.index-modules-m.is
          ∙ ap (λ k. s ∷ drop k (sources ps ts)) (sym (add-one c.loop-m.m)))
          (c.deref.ensures.value ∙ c.in_ok-lines.ensures ∙ ap (lines_of c.args.rows.now) c.as_str.ensures.value) refl
          (c.in_ok-judge_module.ensures.judged ∙ ap (λ u. map view_of c.loop-m.judged.items ++ map (judge u c.deref.result.now c.loop-m.m) (module_mutants (plain_module c.index-modules-m.result))) c.loop-m.invariant.kept)
          c.loop-m.invariant.so_far;
      kept = c.in_ok-judge_module.ensures.kept ∙ c.loop-m.invariant.kept;
    }

pub returns : goal.returns
returns c =
    let ps = c.args.programs.now.modules.items in
    let ts = c.args.modules.now in
    let t = tried_of c.args.trial.now in
    modules-end t c.args.rows.now (sources ps ts) (judged_all t c.args.rows.now (sources ps ts)) c.loop-m.m (map view_of c.loop-m.judged.items) (past-sources ps ts c.loop-m.m (omega (arith, c.min-count.ensures, c.len.ensures))) c.loop-m.invariant.so_far
