use Rattle.std.proofs.Common.{◌≡◌}
use Rattle.toml.specs.View.{members_view}
use Rattle.cov_config.specs.Settings.{in_order, rules_in}
use Rattle.cov_config.specs.Plain.{rules_view}
use Rattle.cov_config.proofs.Rules.{after}
use Rattle.cov_config.proofs.paths.rules_in.Given as goal

-- the rules so far and those of the members that are left make the whole
abbrev pub invariant-loop-name : goal.invariant-loop-name
invariant-loop-name l = rules_in (in_order (members_view l.table.entries)) ≡ after (rules_view l.rules.items) (rules_in (members_view l.name-iterator))
