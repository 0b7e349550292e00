use Rattle.std.proofs.Common.{◌≡◌, map}
use Rattle.std.specs.FinMap.{values}
use Rattle.cov_combine.specs.Aliases.{alias_among}
use Rattle.cov_combine.proofs.aliases.AliasRules.alias.Given as goal

abbrev pub invariant-loop-name : goal.invariant-loop-name
invariant-loop-name l = alias_among (values l.self) (map (λ p. p.now) l.parts.items) ≡ alias_among (map (λ e. e.1) l._name-iterator) (map (λ p. p.now) l.parts.items)
