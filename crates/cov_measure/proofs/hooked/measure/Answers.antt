use Rattle.std.proofs.Common.{◌≡◌, ap, sym, subst}
use Rattle.py_builtins.specs.declared.fault.RunFault.TheVariants.{ReadFault, WriteFault}
use Rattle.cov_contexts.specs.Sources.{Sources}
use Rattle.cov_hook.specs.declared.hook.Hook.{Hook}
use Rattle.cov_hook.specs.View.{state_of}
use Rattle.cov_measure_laws.specs.Leaving.{AreLeft}
use Rattle.cov_measure_laws.specs.Meant.{IsFaithfulHook, meant_sources}
use Rattle.cov_measure.specs.Measures.{sources_of}
use Rattle.cov_measure.specs.Requests.{asked_in}
use Rattle.cov_measure.specs.Told.{code_hook}
use Rattle.cov_measure.proofs.Answering.{if-plain, on-plain, is-plain, lent-sources, ended-so, refused-so}
use Rattle.cov_measure.proofs.hooked.measure.Goals as goal

pub returns-clause-measured : goal.returns-clause-measured
returns-clause-measured g c = λ ms hs are well faithful.
    let sources = sources_of c.args.hook c.args.plugins.now.items c.args.request.now.by_name in
    let same : c.new-contexts.result ≡ sources = lent-sources c.args.hook c.replace-lent.result c.args.plugins.now c.args.request.now.by_name c.replace-lent.ensures.value c.new-contexts.result c.new-contexts.ensures in
    let answer = c.measure_under-answer.result.0 in
    record {
      ended = λ true.
          ended-so g.I.Source g.O.Sink g.P.Plugin (asked_in c.args.request.now) ms c.args.input.now c.measure_under-answer.new.input c.args.out.now c.measure_under-answer.new.out c.measure_under-answer.result.1.items answer
          (meant_sources state_of hs c.new-contexts.result) (meant_sources state_of hs sources) (ap (meant_sources state_of hs) same)
          (c.measure_under-answer.ensures.meant ms hs state_of
          (record { trees = are; of_code = λ old new «module» function label h. h; hook_well = well; hook_faithful = subst (λ (s : Sources Hook g.row.P.Denot). IsFaithfulHook state_of hs s.hook) (sym same) faithful }) true);
      steps = λ true. if-plain answer _ (c.measure_under-answer.ensures.steps ms are true);
      given_up = λ true. on-plain answer _ (c.measure_under-answer.ensures.given_up ms are true);
      plugins = subst (λ (s : Sources Hook g.row.P.Denot). AreLeft g.P.Plugin s.plugins c.measure_under-answer.result.1.items) same c.measure_under-answer.ensures.plugins;
      reads = c.measure_under-answer.ensures.reads;
      writes = c.measure_under-answer.ensures.writes;
      read_fault = λ h. c.measure_under-answer.ensures.read_fault (is-plain answer ReadFault h);
      write_fault = λ h. c.measure_under-answer.ensures.write_fault (is-plain answer WriteFault h);
    }

pub returns-clause-refused : goal.returns-clause-refused
returns-clause-refused g c =
    let same = lent-sources c.args.hook c.replace-lent.result c.args.plugins.now c.args.request.now.by_name c.replace-lent.ensures.value c.new-contexts.result c.new-contexts.ensures in
    refused-so code_hook g.P.Plugin _ c.new-contexts.result _ same _ _ _ c.measure_under-answer.result.0 c.measure_under-answer.ensures.refused
