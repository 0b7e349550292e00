use Rattle.std.proofs.Common.{◌≡◌, true, false, sym, ◌∙◌}
use Rattle.cov_sql.proofs.Contexts.{if_ok}
use Rattle.cov_sql.proofs.saved.bits_if.Goals as goal

pub returns-clause-none : goal.returns-clause-none
returns-clause-none c = if_ok c.bits_of.result _ (λ bits arcs. absurd (let both : true ≡ false = sym arcs ∙ c.if-arcs.false in cc))

pub returns-clause-all : goal.returns-clause-all
returns-clause-all c arcs lines = c.bits_of.ensures lines
