use Rattle.std.proofs.Common.{rules, ◌≡◌, Err, sym, subst}
use Rattle.sqlite.specs.Held.{state}
use Rattle.cov_sql.specs.Refusals.{refusal}
use Rattle.cov_sql.specs.Tables.{line_bits, arc, tracer}
use Rattle.cov_sql.specs.Finds.{Finds, HoldsRows, HoldsCounts, LacksTable, IsMeasured, LacksOne}
use Rattle.cov_sql.proofs.CellFields.{lacks_line_bits, lacks_arc, lacks_tracer}
use Rattle.cov_sql.proofs.Seeking.{sought, unsought, later, stopped, went, holds_table}
use Rattle.cov_sql.proofs.reading.read_measured.Goals as goal

pub returns-in_err-line_bits-clause-told : goal.returns-in_err-line_bits-clause-told
returns-in_err-line_bits-clause-told g c tells clean =
    let s0 = state g.S.Store c.args.base.now in
    let s1 = state g.S.Store c.read_line_bits.new.base in
    let f1 = unsought line_bits s0 s1 _ ((c.in_err-line_bits.ensures.reads tells).told clean) in
    let is : c.from_residual.result ≡ Err (refusal c.in_err-line_bits.field-0.0) = search rules in
    subst (λ r. Finds IsMeasured LacksOne s0 s1 r) (sym is) (stopped (HoldsRows line_bits) (LacksTable line_bits) IsMeasured LacksOne s0 s1 _ (lacks_line_bits s0.now) f1)

pub returns-in_err-arc-clause-told : goal.returns-in_err-arc-clause-told
returns-in_err-arc-clause-told g c tells clean =
    let s0 = state g.S.Store c.args.base.now in
    let s1 = state g.S.Store c.read_line_bits.new.base in
    let s2 = state g.S.Store c.read_arc.new.base in
    let f1 = sought line_bits s0 s1 _ ((c.in_ok-line_bits.ensures.reads tells).told (c.read_arc.ensures.asks.clean clean)) in
    let f2 = later (HoldsRows arc) (LacksTable arc) s0 s1 s2 _ f1.kept (unsought arc s1 s2 _ ((c.in_err-arc.ensures.reads (c.read_line_bits.ensures.goes_on.tells tells)).told clean)) in
    let is : c.from_residual-in_err-arc.result ≡ Err (refusal c.in_err-arc.field-0.0) = search rules in
    subst (λ r. Finds IsMeasured LacksOne s0 s2 r) (sym is) (stopped (HoldsRows arc) (LacksTable arc) IsMeasured LacksOne s0 s2 _ (lacks_arc s0.now) f2)

pub returns-in_err-_tracer-clause-told : goal.returns-in_err-_tracer-clause-told
returns-in_err-_tracer-clause-told g c tells clean =
    let s0 = state g.S.Store c.args.base.now in
    let s1 = state g.S.Store c.read_line_bits.new.base in
    let s2 = state g.S.Store c.read_arc.new.base in
    let s3 = state g.S.Store c.read_tracer.new.base in
    let f1 = sought line_bits s0 s1 _ ((c.in_ok-line_bits.ensures.reads tells).told (c.read_arc.ensures.asks.clean (c.read_tracer.ensures.asks.clean clean))) in
    let f2 = later (HoldsRows arc) (LacksTable arc) s0 s1 s2 _ f1.kept (sought arc s1 s2 _ ((c.in_ok-arc.ensures.reads (c.read_line_bits.ensures.goes_on.tells tells)).told (c.read_tracer.ensures.asks.clean clean))) in
    let f3 = later (HoldsRows tracer) (LacksTable tracer) s0 s2 s3 _ f2.kept (unsought tracer s2 s3 _ ((c.in_err-_tracer.ensures.reads (c.read_arc.ensures.goes_on.tells (c.read_line_bits.ensures.goes_on.tells tells))).told clean)) in
    let is : c.from_residual-in_err-_tracer.result ≡ Err (refusal c.in_err-_tracer.field-0.0) = search rules in
    subst (λ r. Finds IsMeasured LacksOne s0 s3 r) (sym is) (stopped (HoldsRows tracer) (LacksTable tracer) IsMeasured LacksOne s0 s3 _ (lacks_tracer s0.now) f3)

pub returns-clause-told : goal.returns-clause-told
returns-clause-told g c tells clean =
    let s0 = state g.S.Store c.args.base.now in
    let s1 = state g.S.Store c.read_line_bits.new.base in
    let s2 = state g.S.Store c.read_arc.new.base in
    let s3 = state g.S.Store c.read_tracer.new.base in
    let s4 = state g.S.Store c.hits_rows.new.base in
    let f1 = sought line_bits s0 s1 _ ((c.in_ok-line_bits.ensures.reads tells).told (c.read_arc.ensures.asks.clean (c.read_tracer.ensures.asks.clean (c.hits_rows.ensures.asks.clean clean)))) in
    let f2 = later (HoldsRows arc) (LacksTable arc) s0 s1 s2 _ f1.kept (sought arc s1 s2 _ ((c.in_ok-arc.ensures.reads (c.read_line_bits.ensures.goes_on.tells tells)).told (c.read_tracer.ensures.asks.clean (c.hits_rows.ensures.asks.clean clean)))) in
    let f3 = later (HoldsRows tracer) (LacksTable tracer) s0 s2 s3 _ f2.kept (sought tracer s2 s3 _ ((c.in_ok-_tracer.ensures.reads (c.read_arc.ensures.goes_on.tells (c.read_line_bits.ensures.goes_on.tells tells))).told (c.hits_rows.ensures.asks.clean clean))) in
    let f4 = later HoldsCounts (λ _. ⊥) s0 s3 s4 _ f3.kept (c.in_ok-hits.ensures.told (c.read_tracer.ensures.goes_on.tells (c.read_arc.ensures.goes_on.tells (c.read_line_bits.ensures.goes_on.tells tells))) clean) in
    went IsMeasured LacksOne s0 s4 _ (record { line_bits = f1.rows; arc = f2.rows; tracer = holds_table tracer s0.now _ f3.rows; hits = f4.rows }) f4.kept
