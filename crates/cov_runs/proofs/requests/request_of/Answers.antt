use Rattle.std.proofs.Common.{ap, refl, string_bytes, ◌∙◌}
use Rattle.cov_config.specs.Plain.{hook_view}
use Rattle.cov_runs.proofs.WordsAsked.{asked-so, hook-or, number-or, program-words, text-or}
use Rattle.cov_runs.proofs.requests.request_of.Goals as goal

pub returns : goal.returns
returns c = record {
  asks =
      asked-so _ c.either.ensures (ap string_bytes c.unwrap_or.ensures ∙ text-or c.args.words.context c.args.settings.context) (program-words c.args.words.script c.args.words.args.items)
      (c.unwrap_or-2.ensures ∙ number-or c.args.words.budget c.args.settings.budget);
  hook = ap hook_view c.or.ensures ∙ hook-or c.args.words.hook c.args.settings.hook;
  script = refl;
}
