use Rattle.cov_analysis.proofs.source.source_of.Goals as goal

pub returns : goal.returns
returns c = λ i. record { lines = c.in_ok-lines.ensures i; excluded = c.in_ok-excluded.ensures i; no_branch = c.in_ok-no_branch.ensures i; arcs = c.in_ok-arcs.ensures i }
