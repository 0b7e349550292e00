use Rattle.cov_cause_laws.proofs.Rows.{many-patterns, no-report, nothing-spelled, text-limit}
use Rattle.cov_cause_laws.proofs.laws.worked_causes.Goals as goal

pub returns-clause-no_words : goal.returns-clause-no_words
returns-clause-no_words c = nothing-spelled

pub returns-clause-nothing_reported : goal.returns-clause-nothing_reported
returns-clause-nothing_reported c = no-report c.defaults_are_set.ensures

pub returns-clause-bad_limit : goal.returns-clause-bad_limit
returns-clause-bad_limit c = text-limit

pub returns-clause-many_patterns : goal.returns-clause-many_patterns
returns-clause-many_patterns c = many-patterns
