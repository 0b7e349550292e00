-- What the types of the code stand for.
use Rattle.cov_analysis.specs.Analyses as facts
use Rattle.cov_analysis.specs.Lookups.{count_in, is_counted, branch_count_in}
use Rattle.cov_analysis.specs.declared.source.Source.{Source}
use Rattle.cov_analysis.specs.declared.taken.Taken.{Taken}

-- a source in memory as such
abbrev pub source_view : Source → facts.Source
source_view source = record {
  lines = source.lines.items;
  excluded = source.excluded.items;
  no_branch = source.no_branch.items;
  arcs = source.arcs;
}

-- what runs took, in memory, as such
abbrev pub taken_view : Taken → facts.Taken
taken_view taken = record {
  arcs = taken.arcs;
  executed = taken.executed.items;
  line_count = count_in taken.lines;
  is_taken = is_counted taken.branches;
  branch_count = branch_count_in taken.branches;
}
