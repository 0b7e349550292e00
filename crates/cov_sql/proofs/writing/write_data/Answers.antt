use Rattle.std.proofs.Common.{rules, arith, ◌≡◌, Err, refl, sym, ap, subst}
use Rattle.sqlite.specs.Held.{state}
use Rattle.sqlite.specs.State.{HasCleanDisk, Survives, IsRolledBack, Commits}
use Rattle.cov_sql.specs.declared.statements.StatementError.TheVariants.{Missing}
use Rattle.cov_sql.proofs.Stepping.{keeps_itself, stays, refused_as, on_error}
use Rattle.cov_sql.proofs.Committing.{keeps_all, only_read, undone, saved_in, committed, ends_saved}
use Rattle.cov_sql.proofs.Denying.{answered, answered_else, in_work, not_in_work}
use Rattle.cov_sql.proofs.Lacking.{never_in_work}
use Rattle.cov_sql.proofs.writing.write_data.Goals as goal

-- ---- nothing was read yet

pub returns-in_err-saved-clause-kept : goal.returns-in_err-saved-clause-kept
returns-in_err-saved-clause-kept g c tells clean = on_error _ (keeps_itself (state g.S.Store c.args.base.now))

pub returns-in_err-saved-clause-crash : goal.returns-in_err-saved-clause-crash
returns-in_err-saved-clause-crash g c tells = only_read g.S.Store c.args.content.now c.args.fresh c.args.base.now c.args.base.now (stays g.S.Store c.args.base.now)

-- ---- the base was read

pub returns-in_err-start-clause-kept : goal.returns-in_err-start-clause-kept
returns-in_err-start-clause-kept g c tells clean = on_error _ (c.judged.ensures.told tells clean).kept

pub returns-in_err-start-clause-once : goal.returns-in_err-start-clause-once
returns-in_err-start-clause-once g c tells clean is there = absurd (let no = (c.in_err-start.ensures.told tells clean).begins is in cc)

pub returns-in_err-start-clause-crash : goal.returns-in_err-start-clause-crash
returns-in_err-start-clause-crash g c tells =
    only_read g.S.Store c.args.content.now c.args.fresh c.args.base.now c.judged.new.base (c.judged.ensures.reads.survives tells)

pub returns-in_err-may_begin-clause-kept : goal.returns-in_err-may_begin-clause-kept
returns-in_err-may_begin-clause-kept g c tells clean = on_error _ (c.judged.ensures.told tells clean).kept

pub returns-in_err-may_begin-clause-once : goal.returns-in_err-may_begin-clause-once
returns-in_err-may_begin-clause-once g c tells clean is there =
    answered_else c.in_err-may_begin.field-0.0 _ (search rules) c.in_err-may_begin.ensures.not_missing

pub returns-in_err-may_begin-clause-crash : goal.returns-in_err-may_begin-clause-crash
returns-in_err-may_begin-clause-crash g c tells =
    only_read g.S.Store c.args.content.now c.args.fresh c.args.base.now c.judged.new.base (c.judged.ensures.reads.survives tells)

pub returns-in_err-may_begin-clause-not_schema : goal.returns-in_err-may_begin-clause-not_schema
returns-in_err-may_begin-clause-not_schema g c tells clean is = absurd (c.in_err-may_begin.ensures.not_missing (ap Err (refused_as c.in_err-may_begin.field-0.0 (search rules))))

-- ---- a transaction was begun, and undone

pub returns-in_err-write_all-clause-not_schema : goal.returns-in_err-write_all-clause-not_schema
returns-in_err-write_all-clause-not_schema g c tells clean is =
    let b = c.judged.new.base in
    let mid = c.write_all.new.work.conn.now in
    let told = c.may_begin.ensures.goes_on.tells (c.judged.ensures.reads.goes_on.tells tells) in
    let starts = c.transaction-work.ensures.begun in
    let end = c.base-1.given.0 in
    let left : Survives (state g.S.Store mid) (state g.S.Store end) (λ _. ⊥) = search rules in
    let worked = rw starts at (c.write_all.ensures.steps.survives told) in
    let before : HasCleanDisk (state g.S.Store mid) = omega (arith, clean, left.clean) in
    let missing : c.in_err-write_all.field-0.0 ≡ Missing = refused_as c.in_err-write_all.field-0.0 (search rules) in
    never_in_work g.S.Store c.args.fresh c.in_ok-start.start c.args.base.now b mid c.in_err-write_all.field-0.0 (c.in_ok-start.ensures.told tells) worked (rw starts at (c.in_err-write_all.ensures.never told)) before missing

pub returns-in_err-write_all-clause-once : goal.returns-in_err-write_all-clause-once
returns-in_err-write_all-clause-once g c tells clean is there =
    let b = c.judged.new.base in
    let mid = c.write_all.new.work.conn.now in
    let told = c.may_begin.ensures.goes_on.tells (c.judged.ensures.reads.goes_on.tells tells) in
    let starts = c.transaction-work.ensures.begun in
    let end = c.base-1.given.0 in
    let left : Survives (state g.S.Store mid) (state g.S.Store end) (λ _. ⊥) = search rules in
    let worked = rw starts at (c.write_all.ensures.steps.survives told) in
    let before : HasCleanDisk (state g.S.Store mid) = omega (arith, clean, left.clean) in
    answered c.in_err-write_all.field-0.0 _ (search rules)
    (in_work g.S.Store c.args.fresh c.in_ok-start.start c.args.base.now b mid (Err c.in_err-write_all.field-0.0) (c.in_ok-start.ensures.told tells) worked (rw starts at (c.in_err-write_all.ensures.refuses told)) before is there)

pub returns-in_err-write_all-clause-kept : goal.returns-in_err-write_all-clause-kept
returns-in_err-write_all-clause-kept g c tells clean =
    let b = c.judged.new.base in
    let mid = c.write_all.new.work.conn.now in
    let told = c.may_begin.ensures.goes_on.tells (c.judged.ensures.reads.goes_on.tells tells) in
    let starts = c.transaction-work.ensures.begun in
    let end = c.base-1.given.0 in
    let left : Survives (state g.S.Store mid) (state g.S.Store end) (λ _. ⊥) = search rules in
    let worked = rw starts at (c.write_all.ensures.steps.survives told) in
    let before : HasCleanDisk (state g.S.Store mid) = omega (arith, clean, left.clean) in
    let read : HasCleanDisk (state g.S.Store b) = omega (arith, before, worked.clean) in
    let undone_is : IsRolledBack (state g.S.Store mid) (state g.S.Store end) = search rules in
    let w = (rw starts at (c.write_all.ensures.steps.works told)) before refl in
    on_error _ (keeps_all g.S.Store c.args.base.now b mid end (c.judged.ensures.told tells read).kept w.kept undone_is)

pub returns-in_err-write_all-clause-crash : goal.returns-in_err-write_all-clause-crash
returns-in_err-write_all-clause-crash g c tells =
    let b = c.judged.new.base in
    let mid = c.write_all.new.work.conn.now in
    let told = c.may_begin.ensures.goes_on.tells (c.judged.ensures.reads.goes_on.tells tells) in
    let starts = c.transaction-work.ensures.begun in
    let end = c.base-1.given.0 in
    let left : Survives (state g.S.Store mid) (state g.S.Store end) (λ _. ⊥) = search rules in
    let worked = rw starts at (c.write_all.ensures.steps.survives told) in
    undone g.S.Store c.args.content.now c.args.fresh c.args.base.now b mid end (c.judged.ensures.reads.survives tells) worked left

-- ---- it was to be committed

pub returns-in_err-commit-clause-not_schema : goal.returns-in_err-commit-clause-not_schema
returns-in_err-commit-clause-not_schema g c tells clean is = absurd (c.in_err-commit.ensures.not_missing (ap Err (refused_as c.in_err-commit.field-0.0 (search rules))))

pub returns-in_err-commit-clause-once : goal.returns-in_err-commit-clause-once
returns-in_err-commit-clause-once g c tells clean is there =
    let b = c.judged.new.base in
    let mid = c.write_all.new.work.conn.now in
    let told = c.may_begin.ensures.goes_on.tells (c.judged.ensures.reads.goes_on.tells tells) in
    let starts = c.transaction-work.ensures.begun in
    let end = c.base-2-1.given.0 in
    let same : c.commit.new.work.0 ≡ end = search rules in
    let left : Survives (state g.S.Store mid) (state g.S.Store end) (λ db. db ≡ (state g.S.Store mid).now.trees) =
    subst (λ h. Survives (state g.S.Store mid) (state g.S.Store h) (λ db. db ≡ (state g.S.Store mid).now.trees)) same c.commit.ensures.survives in
    let worked = rw starts at (c.write_all.ensures.steps.survives told) in
    let before : HasCleanDisk (state g.S.Store mid) = omega (arith, clean, left.clean) in
    not_in_work g.S.Store c.args.fresh c.in_ok-start.start c.args.base.now b mid c.in_ok-write_all.field-0 (c.in_ok-start.ensures.told tells) worked (rw starts at (c.in_ok-write_all.ensures.refuses told)) before is there

pub returns-in_err-commit-clause-crash : goal.returns-in_err-commit-clause-crash
returns-in_err-commit-clause-crash g c tells =
    let b = c.judged.new.base in
    let mid = c.write_all.new.work.conn.now in
    let told = c.may_begin.ensures.goes_on.tells (c.judged.ensures.reads.goes_on.tells tells) in
    let starts = c.transaction-work.ensures.begun in
    let end = c.base-2-1.given.0 in
    let same : c.commit.new.work.0 ≡ end = search rules in
    let left : Survives (state g.S.Store mid) (state g.S.Store end) (λ db. db ≡ (state g.S.Store mid).now.trees) =
    subst (λ h. Survives (state g.S.Store mid) (state g.S.Store h) (λ db. db ≡ (state g.S.Store mid).now.trees)) same c.commit.ensures.survives in
    let worked = rw starts at (c.write_all.ensures.steps.survives told) in
    let saved = saved_in g.S.Store c.args.content.now c.args.fresh c.in_ok-start.start c.in_ok-saved.saved c.args.base.now b mid c.in_ok-write_all.field-0 c.in_ok-saved.ensures (c.in_ok-start.ensures.told tells)
    (c.judged.ensures.reads.survives tells) worked (rw starts at (c.in_ok-write_all.ensures.steps.works told)) (rw starts at (c.in_ok-write_all.ensures.saves told)) in
    committed g.S.Store c.args.content.now c.args.fresh c.args.base.now b mid end (c.judged.ensures.reads.survives tells) worked left saved

pub returns-clause-once : goal.returns-clause-once
returns-clause-once g c tells clean is there =
    let b = c.judged.new.base in
    let mid = c.write_all.new.work.conn.now in
    let told = c.may_begin.ensures.goes_on.tells (c.judged.ensures.reads.goes_on.tells tells) in
    let starts = c.transaction-work.ensures.begun in
    let end = c.base-2-1.given.0 in
    let same : c.commit.new.work.0 ≡ end = search rules in
    let left : Survives (state g.S.Store mid) (state g.S.Store end) (λ db. db ≡ (state g.S.Store mid).now.trees) =
    subst (λ h. Survives (state g.S.Store mid) (state g.S.Store h) (λ db. db ≡ (state g.S.Store mid).now.trees)) same c.commit.ensures.survives in
    let worked = rw starts at (c.write_all.ensures.steps.survives told) in
    let before : HasCleanDisk (state g.S.Store mid) = omega (arith, clean, left.clean) in
    not_in_work g.S.Store c.args.fresh c.in_ok-start.start c.args.base.now b mid c.in_ok-write_all.field-0 (c.in_ok-start.ensures.told tells) worked (rw starts at (c.in_ok-write_all.ensures.refuses told)) before is there

pub returns-clause-crash : goal.returns-clause-crash
returns-clause-crash g c tells =
    let b = c.judged.new.base in
    let mid = c.write_all.new.work.conn.now in
    let told = c.may_begin.ensures.goes_on.tells (c.judged.ensures.reads.goes_on.tells tells) in
    let starts = c.transaction-work.ensures.begun in
    let end = c.base-2-1.given.0 in
    let same : c.commit.new.work.0 ≡ end = search rules in
    let left : Survives (state g.S.Store mid) (state g.S.Store end) (λ db. db ≡ (state g.S.Store mid).now.trees) =
    subst (λ h. Survives (state g.S.Store mid) (state g.S.Store h) (λ db. db ≡ (state g.S.Store mid).now.trees)) same c.commit.ensures.survives in
    let worked = rw starts at (c.write_all.ensures.steps.survives told) in
    let saved = saved_in g.S.Store c.args.content.now c.args.fresh c.in_ok-start.start c.in_ok-saved.saved c.args.base.now b mid c.in_ok-write_all.field-0 c.in_ok-saved.ensures (c.in_ok-start.ensures.told tells)
    (c.judged.ensures.reads.survives tells) worked (rw starts at (c.in_ok-write_all.ensures.steps.works told)) (rw starts at (c.in_ok-write_all.ensures.saves told)) in
    committed g.S.Store c.args.content.now c.args.fresh c.args.base.now b mid end (c.judged.ensures.reads.survives tells) worked left saved

pub returns-in_err-commit-clause-kept : goal.returns-in_err-commit-clause-kept
returns-in_err-commit-clause-kept g c tells clean =
    let b = c.judged.new.base in
    let mid = c.write_all.new.work.conn.now in
    let told = c.may_begin.ensures.goes_on.tells (c.judged.ensures.reads.goes_on.tells tells) in
    let starts = c.transaction-work.ensures.begun in
    let end = c.base-2-1.given.0 in
    let same : c.commit.new.work.0 ≡ end = search rules in
    let left : Survives (state g.S.Store mid) (state g.S.Store end) (λ db. db ≡ (state g.S.Store mid).now.trees) =
    subst (λ h. Survives (state g.S.Store mid) (state g.S.Store h) (λ db. db ≡ (state g.S.Store mid).now.trees)) same c.commit.ensures.survives in
    let worked = rw starts at (c.write_all.ensures.steps.survives told) in
    let before : HasCleanDisk (state g.S.Store mid) = omega (arith, clean, left.clean) in
    let read : HasCleanDisk (state g.S.Store b) = omega (arith, before, worked.clean) in
    let w = (rw starts at (c.in_ok-write_all.ensures.steps.works told)) before refl in
    let late : HasCleanDisk (state g.S.Store c.commit.new.work.0) = subst (λ h. HasCleanDisk (state g.S.Store h)) (sym same) clean in
    let undone_is : IsRolledBack (state g.S.Store mid) (state g.S.Store end) =
    subst (λ h. IsRolledBack (state g.S.Store mid) (state g.S.Store h)) same (c.in_err-commit.ensures.undone late w.goes_on) in
    on_error _ (keeps_all g.S.Store c.args.base.now b mid end (c.judged.ensures.told tells read).kept w.kept undone_is)

pub returns-clause-saved : goal.returns-clause-saved
returns-clause-saved g c tells clean =
    let b = c.judged.new.base in
    let mid = c.write_all.new.work.conn.now in
    let told = c.may_begin.ensures.goes_on.tells (c.judged.ensures.reads.goes_on.tells tells) in
    let starts = c.transaction-work.ensures.begun in
    let end = c.base-2-1.given.0 in
    let same : c.commit.new.work.0 ≡ end = search rules in
    let left : Survives (state g.S.Store mid) (state g.S.Store end) (λ db. db ≡ (state g.S.Store mid).now.trees) =
    subst (λ h. Survives (state g.S.Store mid) (state g.S.Store h) (λ db. db ≡ (state g.S.Store mid).now.trees)) same c.commit.ensures.survives in
    let worked = rw starts at (c.write_all.ensures.steps.survives told) in
    let saved = saved_in g.S.Store c.args.content.now c.args.fresh c.in_ok-start.start c.in_ok-saved.saved c.args.base.now b mid c.in_ok-write_all.field-0 c.in_ok-saved.ensures (c.in_ok-start.ensures.told tells)
    (c.judged.ensures.reads.survives tells) worked (rw starts at (c.in_ok-write_all.ensures.steps.works told)) (rw starts at (c.in_ok-write_all.ensures.saves told)) in
    let before : HasCleanDisk (state g.S.Store mid) = omega (arith, clean, left.clean) in
    let late : HasCleanDisk (state g.S.Store c.commit.new.work.0) = subst (λ h. HasCleanDisk (state g.S.Store h)) (sym same) clean in
    let ended : Commits (state g.S.Store mid) (state g.S.Store end) = subst (λ h. Commits (state g.S.Store mid) (state g.S.Store h)) same (c.in_ok-commit.ensures.told late) in
    ends_saved g.S.Store c.args.content.now c.args.fresh c.args.base.now mid end ended (saved before)
