use Rattle.cov_sql.proofs.Seeking.{counts_given}
use Rattle.cov_sql.proofs.reading.found_in.Goals as goal

pub returns : goal.returns
returns c = λ db n m. record {
  coverage_schema = n.coverage_schema;
  meta = n.meta;
  file = n.file;
  context = n.context;
  line_bits = m.line_bits;
  arc = m.arc;
  tracer = m.tracer;
  hits = counts_given db _ c.args.measured.hits _ c.is_some-has_hits.ensures c.rows_if.ensures m.hits;
}
