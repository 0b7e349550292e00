use Rattle.std.proofs.Common.{◌≡◌, map, take}
use Rattle.cov_combine.specs.Aliases.{rules_from}
use Rattle.cov_combine.specs.Stored.{rules_by_name, given_view}
use Rattle.cov_combine.proofs.aliases.AliasRules.read.Given as goal

abbrev pub invariant-loop-name : goal.invariant-loop-name
invariant-loop-name l = rules_by_name l.by_name.entries ≡ rules_from (map given_view (take l.name-index l.rules))
