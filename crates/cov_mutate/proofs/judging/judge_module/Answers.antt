use Rattle.std.proofs.Common.{◌-◌, ◌<◌, ◌++◌, map, length, vec_len, slice_get, ap, sym, ◌∙◌, arith}
use Rattle.std.specs.Option.{option_map}
use Rattle.cov_mutants.specs.MutantView.{mutant_of}
use Rattle.py_changes.specs.Mutants.{module_mutants}
use Rattle.py_syntax.specs.View.{plain_module}
use Rattle.cov_mutate.specs.Code.{judge}
use Rattle.cov_mutate.specs.Meant.{view_of}
use Rattle.cov_mutate.specs.Trials.{tried_of}
use Rattle.cov_mutate.proofs.Steps.{one-left, mutant-formed, mutant-names, mutant-step, mutants-end}
use Rattle.cov_mutate.proofs.judging.judge_module.Goals as goal

pub returns-in-None-clause-judged : goal.returns-in-None-clause-judged
returns-in-None-clause-judged c =
    let all = module_mutants (plain_module c.args.module.now) in
    mutants-end (judge (tried_of c.args.trial.now) c.args.lines.now c.args.m) all (map view_of c.args.judged.now.items ++ map (judge (tried_of c.args.trial.now) c.args.lines.now c.args.m) all)
    (vec_len c.mutants.judged - c.len-start.result) c.mutants.judged.items
    (sym (ap (option_map mutant_of) c.in-None.is) ∙ c.in_ok-mutant_at.ensures ∙ ap (λ k. slice_get all (k - c.len-start.result)) c.len.ensures) c.mutants.invariant.so_far

pub judge-requires-clause-well_formed : goal.judge-requires-clause-well_formed
judge-requires-clause-well_formed c =
    mutant-formed c.mutants_are_well_formed.ensures (plain_module c.args.module.now) (c.len.result - c.len-start.result) (mutant_of c.in-Some.mutant) (sym (ap (option_map mutant_of) c.in-Some.is) ∙ c.in_ok-mutant_at.ensures) c.in_ok-scopes.ensures.well_formed

pub judge-requires-clause-names : goal.judge-requires-clause-names
judge-requires-clause-names c =
    mutant-names c.mutants_are_well_formed.ensures (plain_module c.args.module.now) (c.len.result - c.len-start.result) (mutant_of c.in-Some.mutant) (sym (ap (option_map mutant_of) c.in-Some.is) ∙ c.in_ok-mutant_at.ensures)
    c.in_ok-scopes.scopes c.in_ok-scopes.ensures.names

pub mutants-smaller : goal.mutants-smaller
mutants-smaller c =
    let all = module_mutants (plain_module c.args.module.now) in
    let low : c.len.result - c.len-start.result < length all = (one-left all (c.len.result - c.len-start.result) (mutant_of c.in-Some.mutant) (sym (ap (option_map mutant_of) c.in-Some.is) ∙ c.in_ok-mutant_at.ensures)).1 in
    omega (arith, low, c.len.ensures, c.mutants.invariant.from, c.in_ok-push-in-Some.ensures.len)

pub mutants-preserved : goal.mutants-preserved
mutants-preserved c =
    let all = module_mutants (plain_module c.args.module.now) in
    let x = mutant_of c.in-Some.mutant in
    record {
      so_far =
          mutant-step (judge (tried_of c.args.trial.now) c.args.lines.now c.args.m) all (map view_of c.args.judged.now.items ++ map (judge (tried_of c.args.trial.now) c.args.lines.now c.args.m) all)
          (vec_len c.mutants.judged - c.len-start.result) (vec_len c.push.new.self - c.len-start.result) x c.mutants.judged.items c.push.new.self.items c.in_ok-found-in-Some.found
          (sym (ap (option_map mutant_of) c.in-Some.is) ∙ c.in_ok-mutant_at.ensures ∙ ap (λ k. slice_get all (k - c.len-start.result)) c.len.ensures)
          (omega (arith, c.mutants.invariant.from, c.in_ok-push-in-Some.ensures.len))
          (c.in_ok-found-in-Some.ensures.view ∙ ap (λ t. judge t c.args.lines.now c.args.m x) c.mutants.invariant.kept)
          c.in_ok-push-in-Some.ensures.items c.mutants.invariant.so_far;
      kept = c.in_ok-found-in-Some.ensures.kept ∙ c.mutants.invariant.kept;
      from = omega (arith, c.mutants.invariant.from, c.in_ok-push-in-Some.ensures.len);
    }
