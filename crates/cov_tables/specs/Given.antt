-- The rows of the tables that were read.
use Rattle.cov_tables.specs.Fields.{rows}
use Rattle.cov_tables.specs.Content.{Tables}
use Rattle.cov_tables.specs.declared.content.Tables.{Tables as Read}

-- what the lists of the code hold
abbrev pub tables : Read → Tables
tables t = record {
  coverage_schema = rows t.coverage_schema.items;
  meta = rows t.meta.items;
  file = rows t.file.items;
  context = rows t.context.items;
  line_bits = rows t.line_bits.items;
  arc = rows t.arc.items;
  hits = rows t.hits.items;
}
