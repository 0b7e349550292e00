use Rattle.std.proofs.Common.{◌≡◌, ◌++◌, drop, take}
use Rattle.regex.specs.Strings.{regex_pattern, regex_source, matcher_pattern}
use Rattle.cov_exclude.specs.Flags.{flagged_by}
use Rattle.cov_exclude.specs.Views.{texts_view}
use Rattle.cov_exclude.proofs.lines.flag_texts.Given as goal

abbrev pub invariant-loop-at : goal.invariant-loop-at
invariant-loop-at l = record {
  alike : matcher_pattern l.matcher ≡ regex_pattern l.regex;
  flagged : take l.at l.flags ++ flagged_by (regex_source l.regex) (drop l.at l.flags) (texts_view (drop l.at l.texts)) ≡ flagged_by (regex_source l.regex) l.initial.flags (texts_view l.texts);
}
