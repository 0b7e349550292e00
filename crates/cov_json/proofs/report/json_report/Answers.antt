use Rattle.std.proofs.Common.{map}
use Rattle.cov_analysis.specs.Analyses.{analysis_view}
use Rattle.cov_json.proofs.Floats.{text_of}
use Rattle.cov_json.proofs.report.json_report.Goals as goal

pub returns : goal.returns
returns c = text_of c.to_string-text.result _ (map analysis_view c.args.files.now) c.args.arcs c.in_ok-value.ensures c.to_string-text.ensures.text
