use Rattle.std.proofs.Common.{◌∙◌, ap}
use Rattle.cov_analysis.specs.Counts.{numbers_of, total_of}
use Rattle.cov_analysis.specs.declared.analysis.Analysis.{Analysis}
use Rattle.std.proofs.Common.{List, map}
use Rattle.cov_step.specs.Phases.{judged_by}
use Rattle.cov_reports.proofs.Judging.{judged-views, put-so, text-is}
use Rattle.cov_reports.proofs.commands.put_text.Goals as goal

pub returns : goal.returns
returns g c = λ bytes made.
    put-so g.H.Shelf g.O.Sink c.args.name.now (c.as_bytes.ensures.value ∙ text-is c.args.text c.in-Ok.text bytes c.in-Ok.is made)
    (c.in-Ok-judged.ensures
    ∙ ap (λ (files : List Analysis). judged_by c.least_of-least.result (total_of (map numbers_of files))) c.deref.ensures.value
    ∙ ap (λ least. judged_by least (total_of (map numbers_of c.args.findings.now.files.items))) c.least_of-least.ensures
    ∙ judged-views _ c.args.findings.now.files.items) c.put_last.ensures
