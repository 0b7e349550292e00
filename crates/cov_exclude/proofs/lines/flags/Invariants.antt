use Rattle.std.proofs.Common.{◌≡◌, map, take}
use Rattle.cov_exclude.specs.Texts.{is_matched, texts_of}
use Rattle.cov_exclude.specs.Views.{texts_view}
use Rattle.cov_exclude.proofs.lines.flags.Given as goal

abbrev pub invariant-loop-regex : goal.invariant-loop-regex
invariant-loop-regex l = l.flags.items ≡ map (is_matched (texts_of (take l.regex-index l.made))) (texts_view l.texts)
