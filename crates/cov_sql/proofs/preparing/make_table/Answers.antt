use Rattle.cov_sql.proofs.Stepping.{works_one}
use Rattle.cov_sql.proofs.WrittenTexts.{of_make_arc, of_make_context, of_make_coverage_schema, of_make_file, of_make_hits, of_make_line_bits, of_make_meta, of_make_tracer}
use Rattle.cov_sql.proofs.preparing.make_table.Goals as goal

pub returns-in-CoverageSchema-clause-steps : goal.returns-in-CoverageSchema-clause-steps
returns-in-CoverageSchema-clause-steps g c = works_one of_make_coverage_schema c.make_coverage_schema.ensures.works c.make_coverage_schema.ensures.goes_on c.make_coverage_schema.ensures.same_reference

pub returns-in-Meta-clause-steps : goal.returns-in-Meta-clause-steps
returns-in-Meta-clause-steps g c = works_one of_make_meta c.make_meta.ensures.works c.make_meta.ensures.goes_on c.make_meta.ensures.same_reference

pub returns-in-File-clause-steps : goal.returns-in-File-clause-steps
returns-in-File-clause-steps g c = works_one of_make_file c.make_file.ensures.works c.make_file.ensures.goes_on c.make_file.ensures.same_reference

pub returns-in-Context-clause-steps : goal.returns-in-Context-clause-steps
returns-in-Context-clause-steps g c = works_one of_make_context c.make_context.ensures.works c.make_context.ensures.goes_on c.make_context.ensures.same_reference

pub returns-in-LineBits-clause-steps : goal.returns-in-LineBits-clause-steps
returns-in-LineBits-clause-steps g c = works_one of_make_line_bits c.make_line_bits.ensures.works c.make_line_bits.ensures.goes_on c.make_line_bits.ensures.same_reference

pub returns-in-Arc-clause-steps : goal.returns-in-Arc-clause-steps
returns-in-Arc-clause-steps g c = works_one of_make_arc c.make_arc.ensures.works c.make_arc.ensures.goes_on c.make_arc.ensures.same_reference

pub returns-in-Tracer-clause-steps : goal.returns-in-Tracer-clause-steps
returns-in-Tracer-clause-steps g c = works_one of_make_tracer c.make_tracer.ensures.works c.make_tracer.ensures.goes_on c.make_tracer.ensures.same_reference

pub returns-in-Hits-clause-steps : goal.returns-in-Hits-clause-steps
returns-in-Hits-clause-steps g c = works_one of_make_hits c.make_hits.ensures.works c.make_hits.ensures.goes_on c.make_hits.ensures.same_reference
