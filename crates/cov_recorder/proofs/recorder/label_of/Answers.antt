use Rattle.std.proofs.Common.{inr}
use Rattle.cov_recorder.specs.Asking.{asks}
use Rattle.cov_recorder.specs.Labels.{question}
use Rattle.cov_recorder.specs.Recording.{label_now}
use Rattle.cov_recorder.proofs.Moving.{on_err_always}
use Rattle.cov_recorder.proofs.Unasked.{unasked}
use Rattle.cov_recorder.proofs.recorder.label_of.Goals as goal

pub returns-in-None-clause-refused : goal.returns-in-None-clause-refused
returns-in-None-clause-refused g c =
    let r = c.args.records.now in
    on_err_always c.label-in-None.result (inr (unasked (asks g.A.Ask g.P.Plugin) (label_now r.frames) (question r.plan c.args.code) c.args.contexts.now c.in-None.ensures))
