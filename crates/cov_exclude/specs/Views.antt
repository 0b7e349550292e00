-- What the types of the code stand for.
use Rattle.std.specs.Prelude.{ℕ, List, map}
use Rattle.std.specs.Borrow.{Bor}
use Rattle.cov_exclude.specs.Touched.{touches}
use Rattle.cov_exclude.specs.Walk as walk
use Rattle.cov_exclude.specs.declared.walk.Rule.{Rule}

-- a rule in memory as such
abbrev pub rule_view : Rule → walk.Rule
rule_view rule = record { touched = touches rule.matched.now; spreads = rule.spreads }

-- texts in memory as such
abbrev pub texts_view : List (Bor (List ℕ)) → List (List ℕ)
texts_view texts = map (λ text. text.now) texts
