use Rattle.std.proofs.Common.{Ok, sym, subst}
use Rattle.cov_sql.specs.Holding.{cleared, Empties}
use Rattle.cov_sql.specs.declared.tables.Table.TheVariants as name
use Rattle.cov_sql.proofs.Making.{empties_one, empties_none}
use Rattle.cov_sql.proofs.Stepping.{works_none, works_one}
use Rattle.cov_sql.proofs.WrittenTexts.{of_delete_arc, of_delete_context, of_delete_file, of_delete_hits, of_delete_line_bits, of_delete_meta, of_delete_tracer}
use Rattle.cov_sql.proofs.preparing.empty_table.Goals as goal

pub returns-in-Meta-clause-steps : goal.returns-in-Meta-clause-steps
returns-in-Meta-clause-steps g c = works_one of_delete_meta c.delete_meta.ensures.works c.delete_meta.ensures.goes_on c.delete_meta.ensures.same_reference

pub returns-in-File-clause-steps : goal.returns-in-File-clause-steps
returns-in-File-clause-steps g c = works_one of_delete_file c.delete_file.ensures.works c.delete_file.ensures.goes_on c.delete_file.ensures.same_reference

pub returns-in-Context-clause-steps : goal.returns-in-Context-clause-steps
returns-in-Context-clause-steps g c = works_one of_delete_context c.delete_context.ensures.works c.delete_context.ensures.goes_on c.delete_context.ensures.same_reference

pub returns-in-LineBits-clause-steps : goal.returns-in-LineBits-clause-steps
returns-in-LineBits-clause-steps g c = works_one of_delete_line_bits c.delete_line_bits.ensures.works c.delete_line_bits.ensures.goes_on c.delete_line_bits.ensures.same_reference

pub returns-in-Arc-clause-steps : goal.returns-in-Arc-clause-steps
returns-in-Arc-clause-steps g c = works_one of_delete_arc c.delete_arc.ensures.works c.delete_arc.ensures.goes_on c.delete_arc.ensures.same_reference

pub returns-in-Tracer-clause-steps : goal.returns-in-Tracer-clause-steps
returns-in-Tracer-clause-steps g c = works_one of_delete_tracer c.delete_tracer.ensures.works c.delete_tracer.ensures.goes_on c.delete_tracer.ensures.same_reference

pub returns-in-Hits-clause-steps : goal.returns-in-Hits-clause-steps
returns-in-Hits-clause-steps g c = works_one of_delete_hits c.delete_hits.ensures.works c.delete_hits.ensures.goes_on c.delete_hits.ensures.same_reference

pub returns-in-Meta-clause-empties : goal.returns-in-Meta-clause-empties
returns-in-Meta-clause-empties g c tells =
    subst (λ t. Empties g.S.Store (cleared t) c.args.work.now.conn.now c.delete_meta.new.work.conn.now c.delete_meta.result) (sym c.in-Meta.is)
    (empties_one g.S.Store name.Meta c.args.work.now.conn.now c.delete_meta.new.work.conn.now c.delete_meta.result (c.delete_meta.ensures.works tells).told)

pub returns-in-File-clause-empties : goal.returns-in-File-clause-empties
returns-in-File-clause-empties g c tells =
    subst (λ t. Empties g.S.Store (cleared t) c.args.work.now.conn.now c.delete_file.new.work.conn.now c.delete_file.result) (sym c.in-File.is)
    (empties_one g.S.Store name.File c.args.work.now.conn.now c.delete_file.new.work.conn.now c.delete_file.result (c.delete_file.ensures.works tells).told)

pub returns-in-Context-clause-empties : goal.returns-in-Context-clause-empties
returns-in-Context-clause-empties g c tells =
    subst (λ t. Empties g.S.Store (cleared t) c.args.work.now.conn.now c.delete_context.new.work.conn.now c.delete_context.result) (sym c.in-Context.is)
    (empties_one g.S.Store name.Context c.args.work.now.conn.now c.delete_context.new.work.conn.now c.delete_context.result (c.delete_context.ensures.works tells).told)

pub returns-in-LineBits-clause-empties : goal.returns-in-LineBits-clause-empties
returns-in-LineBits-clause-empties g c tells =
    subst (λ t. Empties g.S.Store (cleared t) c.args.work.now.conn.now c.delete_line_bits.new.work.conn.now c.delete_line_bits.result) (sym c.in-LineBits.is)
    (empties_one g.S.Store name.LineBits c.args.work.now.conn.now c.delete_line_bits.new.work.conn.now c.delete_line_bits.result (c.delete_line_bits.ensures.works tells).told)

pub returns-in-Arc-clause-empties : goal.returns-in-Arc-clause-empties
returns-in-Arc-clause-empties g c tells =
    subst (λ t. Empties g.S.Store (cleared t) c.args.work.now.conn.now c.delete_arc.new.work.conn.now c.delete_arc.result) (sym c.in-Arc.is)
    (empties_one g.S.Store name.Arc c.args.work.now.conn.now c.delete_arc.new.work.conn.now c.delete_arc.result (c.delete_arc.ensures.works tells).told)

pub returns-in-Tracer-clause-empties : goal.returns-in-Tracer-clause-empties
returns-in-Tracer-clause-empties g c tells =
    subst (λ t. Empties g.S.Store (cleared t) c.args.work.now.conn.now c.delete_tracer.new.work.conn.now c.delete_tracer.result) (sym c.in-Tracer.is)
    (empties_one g.S.Store name.Tracer c.args.work.now.conn.now c.delete_tracer.new.work.conn.now c.delete_tracer.result (c.delete_tracer.ensures.works tells).told)

pub returns-in-Hits-clause-empties : goal.returns-in-Hits-clause-empties
returns-in-Hits-clause-empties g c tells =
    subst (λ t. Empties g.S.Store (cleared t) c.args.work.now.conn.now c.delete_hits.new.work.conn.now c.delete_hits.result) (sym c.in-Hits.is)
    (empties_one g.S.Store name.Hits c.args.work.now.conn.now c.delete_hits.new.work.conn.now c.delete_hits.result (c.delete_hits.ensures.works tells).told)

pub returns-in-CoverageSchema-clause-empties : goal.returns-in-CoverageSchema-clause-empties
returns-in-CoverageSchema-clause-empties g c tells =
    subst (λ t. Empties g.S.Store (cleared t) c.args.work.now.conn.now c.args.work.now.conn.now (Ok tt)) (sym c.in-CoverageSchema.is) (empties_none g.S.Store c.args.work.now.conn.now)

pub returns-in-CoverageSchema-clause-steps : goal.returns-in-CoverageSchema-clause-steps
returns-in-CoverageSchema-clause-steps g c = works_none _ _
