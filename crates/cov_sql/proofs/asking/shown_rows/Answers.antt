use Rattle.std.proofs.Common.{[], refl, sym, ap, subst, ◌∙◌, rules, arith}
use Rattle.std.specs.Option.{option_copied}
use Rattle.sqlite.specs.State.{HasCleanDisk, IsUnchanged, Survives, CommitsShowing}
use Rattle.sqlite.specs.Held.{state}
use Rattle.sqlite.specs.Given.{Advances}
use Rattle.sqlite.proofs.Callers.{unchanged_then}
use Rattle.sqlite.proofs.StateLemmas.{survives_then}
use Rattle.cov_sql.proofs.Streaming.{IsUnderWay, under_way, one_more, at_end, failed}
use Rattle.cov_sql.proofs.asking.shown_rows.Goals as goal

pub reading-init : goal.reading-init
reading-init g c = record {
  same_reference = refl;
  survives = c.in-Ok.ensures.survives;
  mode = c.in-Ok.ensures.mode;
  told = λ clean plain. subst (IsUnderWay g.S.Store c.args.sql.now c.args.base.now c.in-Ok.rows.conn.now) (sym c.new-all.ensures.items)
      (under_way g.S.Store c.args.sql.now c.args.base.now c.in-Ok.rows.conn.now plain (c.in-Ok.ensures.begun clean));
}

pub reading-preserved : goal.reading-preserved
reading-preserved g c =
    let text = c.args.sql.now in
    let old = c.args.base.now in
    let mid = c.reading.rows.conn.now in
    let new = c.advance.new.self.conn.now in
    record {
      same_reference = c.advance.ensures.same_reference ∙ c.reading.invariant.same_reference;
      survives = survives_then (state g.S.Store old) (state g.S.Store mid) (state g.S.Store new) _ (λ _. ⊥) _ (λ _ db may. may) (λ _ db none. absurd none) c.reading.invariant.survives c.advance.ensures.survives;
      mode = λ out. c.advance.ensures.mode (c.reading.invariant.mode out);
      told = λ clean plain.
          let was = c.reading.invariant.told (omega (arith, clean, c.advance.ensures.survives.clean)) plain in
          let on = subst (Advances g.S.Store mid new) (sym c.get.ensures ∙ ap option_copied c.in-Some.is) (c.in-Ok-advance.ensures.ok clean) in
          subst (IsUnderWay g.S.Store text old new) (sym c.in-Ok-push_row.ensures.2)
          (one_more g.S.Store text old mid new c.reading.all.items c.in-Some.row.now c.in-Ok-push_row.ensures.0 was on (c.in-Ok-advance.ensures.same clean) c.in-Ok-push_row.ensures.1);
    }

-- ---- the database refuses the text

pub returns-in-Err-clause-stops : goal.returns-in-Err-clause-stops
returns-in-Err-clause-stops g c clean plain = let held = c.query.follows.holds-at-none in search rules

pub returns-in-Err-clause-survives : goal.returns-in-Err-clause-survives
returns-in-Err-clause-survives g c = let held = c.query.follows.holds-at-none in search rules

pub returns-in-Err-clause-mode : goal.returns-in-Err-clause-mode
returns-in-Err-clause-mode g c = let held = c.query.follows.holds-at-none in search rules

-- ---- no row is left

pub returns-in-None-clause-shown : goal.returns-in-None-clause-shown
returns-in-None-clause-shown g c clean plain =
    let text = c.args.sql.now in
    let old = c.args.base.now in
    let mid = c.reading.rows.conn.now in
    let new = c.advance.new.self.conn.now in
    let late : HasCleanDisk (state g.S.Store new) = search rules in
    let was = c.reading.invariant.told (omega (arith, late, c.advance.ensures.survives.clean)) plain in
    let on = subst (Advances g.S.Store mid new) (sym c.get.ensures ∙ ap option_copied c.in-None.is) (c.in-Ok-advance.ensures.ok late) in
    let told = at_end g.S.Store text old mid new c.reading.all.items plain was on in
    search rules

pub returns-in-None-clause-mode : goal.returns-in-None-clause-mode
returns-in-None-clause-mode g c out = let still = c.advance.ensures.mode (c.reading.invariant.mode out) in search rules

pub returns-in-None-clause-survives : goal.returns-in-None-clause-survives
returns-in-None-clause-survives g c =
    let old = state g.S.Store c.args.base.now in
    let mid = state g.S.Store c.reading.rows.conn.now in
    let new = state g.S.Store c.advance.new.self.conn.now in
    let all : Survives old new (CommitsShowing c.args.sql.now [] old) = survives_then old mid new _ (λ _. ⊥) _ (λ _ db may. may) (λ _ db none. absurd none) c.reading.invariant.survives c.advance.ensures.survives in
    search rules

-- ---- the next row isn't read

pub returns-in-Err-advance-clause-stops : goal.returns-in-Err-advance-clause-stops
returns-in-Err-advance-clause-stops g c clean plain =
    let text = c.args.sql.now in
    let old = c.args.base.now in
    let mid = c.reading.rows.conn.now in
    let new = c.advance.new.self.conn.now in
    let late : HasCleanDisk (state g.S.Store new) = search rules in
    let was = c.reading.invariant.told (omega (arith, late, c.advance.ensures.survives.clean)) plain in
    let why = failed g.S.Store text old mid new c.reading.all.items c.in-Err-advance.error plain c.reading.invariant.survives.counts c.reading.invariant.survives.limit was (c.in-Err-advance.ensures.err late) in
    search rules

pub returns-in-Err-advance-clause-mode : goal.returns-in-Err-advance-clause-mode
returns-in-Err-advance-clause-mode g c out = let still = c.advance.ensures.mode (c.reading.invariant.mode out) in search rules

pub returns-in-Err-advance-clause-survives : goal.returns-in-Err-advance-clause-survives
returns-in-Err-advance-clause-survives g c =
    let old = state g.S.Store c.args.base.now in
    let mid = state g.S.Store c.reading.rows.conn.now in
    let new = state g.S.Store c.advance.new.self.conn.now in
    let all : Survives old new (CommitsShowing c.args.sql.now [] old) = survives_then old mid new _ (λ _. ⊥) _ (λ _ db may. may) (λ _ db none. absurd none) c.reading.invariant.survives c.advance.ensures.survives in
    search rules

-- ---- no memory for a row

pub returns-in-Err-push_row-clause-stops : goal.returns-in-Err-push_row-clause-stops
returns-in-Err-push_row-clause-stops g c clean plain =
    let old = state g.S.Store c.args.base.now in
    let mid = state g.S.Store c.reading.rows.conn.now in
    let new = state g.S.Store c.advance.new.self.conn.now in
    let late : HasCleanDisk new = search rules in
    let was = c.reading.invariant.told (omega (arith, late, c.advance.ensures.survives.clean)) plain in
    let same : IsUnchanged old new = unchanged_then old mid new was.same (c.in-Ok-advance.ensures.same late) in
    search rules

pub returns-in-Err-push_row-clause-mode : goal.returns-in-Err-push_row-clause-mode
returns-in-Err-push_row-clause-mode g c out = let still = c.advance.ensures.mode (c.reading.invariant.mode out) in search rules

pub returns-in-Err-push_row-clause-survives : goal.returns-in-Err-push_row-clause-survives
returns-in-Err-push_row-clause-survives g c =
    let old = state g.S.Store c.args.base.now in
    let mid = state g.S.Store c.reading.rows.conn.now in
    let new = state g.S.Store c.advance.new.self.conn.now in
    let all : Survives old new (CommitsShowing c.args.sql.now [] old) = survives_then old mid new _ (λ _. ⊥) _ (λ _ db may. may) (λ _ db none. absurd none) c.reading.invariant.survives c.advance.ensures.survives in
    search rules

-- ---- more rows than a number counts

pub returns-clause-stops : goal.returns-clause-stops
returns-clause-stops g c clean plain =
    let late : HasCleanDisk (state g.S.Store c.reading.rows.conn.now) = search rules in
    let was = c.reading.invariant.told late plain in
    let same = was.same in
    search rules

pub returns-clause-survives : goal.returns-clause-survives
returns-clause-survives g c = let all = c.reading.invariant.survives in search rules

pub returns-clause-mode : goal.returns-clause-mode
returns-clause-mode g c out = let still = c.reading.invariant.mode out in search rules
