use Rattle.std.proofs.Common.{rules, ◌≡◌, Err, sym, subst}
use Rattle.sqlite.specs.Held.{state}
use Rattle.cov_sql.specs.Refusals.{refusal}
use Rattle.cov_sql.specs.Tables.{coverage_schema, meta, file, context}
use Rattle.cov_sql.specs.Finds.{Finds, HoldsRows, LacksTable, IsNamed, LacksOne}
use Rattle.cov_sql.proofs.CellFields.{lacks_coverage_schema, lacks_meta, lacks_file, lacks_context}
use Rattle.cov_sql.proofs.Seeking.{sought, unsought, later, stopped, went}
use Rattle.cov_sql.proofs.reading.read_named.Goals as goal

pub returns-in_err-coverage_schema-clause-told : goal.returns-in_err-coverage_schema-clause-told
returns-in_err-coverage_schema-clause-told g c tells clean =
    let s0 = state g.S.Store c.args.base.now in
    let s1 = state g.S.Store c.read_coverage_schema.new.base in
    let f1 = unsought coverage_schema s0 s1 _ ((c.in_err-coverage_schema.ensures.reads tells).told clean) in
    let is : c.from_residual.result ≡ Err (refusal c.in_err-coverage_schema.field-0.0) = search rules in
    subst (λ r. Finds IsNamed LacksOne s0 s1 r) (sym is) (stopped (HoldsRows coverage_schema) (LacksTable coverage_schema) IsNamed LacksOne s0 s1 _ (lacks_coverage_schema s0.now) f1)

pub returns-in_err-meta-clause-told : goal.returns-in_err-meta-clause-told
returns-in_err-meta-clause-told g c tells clean =
    let s0 = state g.S.Store c.args.base.now in
    let s1 = state g.S.Store c.read_coverage_schema.new.base in
    let s2 = state g.S.Store c.read_meta.new.base in
    let f1 = sought coverage_schema s0 s1 _ ((c.in_ok-coverage_schema.ensures.reads tells).told (c.read_meta.ensures.asks.clean clean)) in
    let f2 = later (HoldsRows meta) (LacksTable meta) s0 s1 s2 _ f1.kept (unsought meta s1 s2 _ ((c.in_err-meta.ensures.reads (c.read_coverage_schema.ensures.goes_on.tells tells)).told clean)) in
    let is : c.from_residual-in_err-meta.result ≡ Err (refusal c.in_err-meta.field-0.0) = search rules in
    subst (λ r. Finds IsNamed LacksOne s0 s2 r) (sym is) (stopped (HoldsRows meta) (LacksTable meta) IsNamed LacksOne s0 s2 _ (lacks_meta s0.now) f2)

pub returns-in_err-file-clause-told : goal.returns-in_err-file-clause-told
returns-in_err-file-clause-told g c tells clean =
    let s0 = state g.S.Store c.args.base.now in
    let s1 = state g.S.Store c.read_coverage_schema.new.base in
    let s2 = state g.S.Store c.read_meta.new.base in
    let s3 = state g.S.Store c.read_file.new.base in
    let f1 = sought coverage_schema s0 s1 _ ((c.in_ok-coverage_schema.ensures.reads tells).told (c.read_meta.ensures.asks.clean (c.read_file.ensures.asks.clean clean))) in
    let f2 = later (HoldsRows meta) (LacksTable meta) s0 s1 s2 _ f1.kept (sought meta s1 s2 _ ((c.in_ok-meta.ensures.reads (c.read_coverage_schema.ensures.goes_on.tells tells)).told (c.read_file.ensures.asks.clean clean))) in
    let f3 = later (HoldsRows file) (LacksTable file) s0 s2 s3 _ f2.kept (unsought file s2 s3 _ ((c.in_err-file.ensures.reads (c.read_meta.ensures.goes_on.tells (c.read_coverage_schema.ensures.goes_on.tells tells))).told clean)) in
    let is : c.from_residual-in_err-file.result ≡ Err (refusal c.in_err-file.field-0.0) = search rules in
    subst (λ r. Finds IsNamed LacksOne s0 s3 r) (sym is) (stopped (HoldsRows file) (LacksTable file) IsNamed LacksOne s0 s3 _ (lacks_file s0.now) f3)

pub returns-in_err-context-clause-told : goal.returns-in_err-context-clause-told
returns-in_err-context-clause-told g c tells clean =
    let s0 = state g.S.Store c.args.base.now in
    let s1 = state g.S.Store c.read_coverage_schema.new.base in
    let s2 = state g.S.Store c.read_meta.new.base in
    let s3 = state g.S.Store c.read_file.new.base in
    let s4 = state g.S.Store c.read_context.new.base in
    let f1 = sought coverage_schema s0 s1 _ ((c.in_ok-coverage_schema.ensures.reads tells).told (c.read_meta.ensures.asks.clean (c.read_file.ensures.asks.clean (c.read_context.ensures.asks.clean clean)))) in
    let f2 = later (HoldsRows meta) (LacksTable meta) s0 s1 s2 _ f1.kept (sought meta s1 s2 _ ((c.in_ok-meta.ensures.reads (c.read_coverage_schema.ensures.goes_on.tells tells)).told (c.read_file.ensures.asks.clean (c.read_context.ensures.asks.clean clean)))) in
    let f3 = later (HoldsRows file) (LacksTable file) s0 s2 s3 _ f2.kept (sought file s2 s3 _ ((c.in_ok-file.ensures.reads (c.read_meta.ensures.goes_on.tells (c.read_coverage_schema.ensures.goes_on.tells tells))).told (c.read_context.ensures.asks.clean clean))) in
    let f4 = later (HoldsRows context) (LacksTable context) s0 s3 s4 _ f3.kept (unsought context s3 s4 _ ((c.in_err-context.ensures.reads (c.read_file.ensures.goes_on.tells (c.read_meta.ensures.goes_on.tells (c.read_coverage_schema.ensures.goes_on.tells tells)))).told clean)) in
    let is : c.from_residual-in_err-context.result ≡ Err (refusal c.in_err-context.field-0.0) = search rules in
    subst (λ r. Finds IsNamed LacksOne s0 s4 r) (sym is) (stopped (HoldsRows context) (LacksTable context) IsNamed LacksOne s0 s4 _ (lacks_context s0.now) f4)

pub returns-clause-told : goal.returns-clause-told
returns-clause-told g c tells clean =
    let s0 = state g.S.Store c.args.base.now in
    let s1 = state g.S.Store c.read_coverage_schema.new.base in
    let s2 = state g.S.Store c.read_meta.new.base in
    let s3 = state g.S.Store c.read_file.new.base in
    let s4 = state g.S.Store c.read_context.new.base in
    let f1 = sought coverage_schema s0 s1 _ ((c.in_ok-coverage_schema.ensures.reads tells).told (c.read_meta.ensures.asks.clean (c.read_file.ensures.asks.clean (c.read_context.ensures.asks.clean clean)))) in
    let f2 = later (HoldsRows meta) (LacksTable meta) s0 s1 s2 _ f1.kept (sought meta s1 s2 _ ((c.in_ok-meta.ensures.reads (c.read_coverage_schema.ensures.goes_on.tells tells)).told (c.read_file.ensures.asks.clean (c.read_context.ensures.asks.clean clean)))) in
    let f3 = later (HoldsRows file) (LacksTable file) s0 s2 s3 _ f2.kept (sought file s2 s3 _ ((c.in_ok-file.ensures.reads (c.read_meta.ensures.goes_on.tells (c.read_coverage_schema.ensures.goes_on.tells tells))).told (c.read_context.ensures.asks.clean clean))) in
    let f4 = later (HoldsRows context) (LacksTable context) s0 s3 s4 _ f3.kept (sought context s3 s4 _ ((c.in_ok-context.ensures.reads (c.read_file.ensures.goes_on.tells (c.read_meta.ensures.goes_on.tells (c.read_coverage_schema.ensures.goes_on.tells tells)))).told clean)) in
    went IsNamed LacksOne s0 s4 _ (record { coverage_schema = f1.rows; meta = f2.rows; file = f3.rows; context = f4.rows }) f4.kept
