-- One step of reading after the other.
use Rattle.std.proofs.Common.{◌≡◌, ◌≢◌, inl, inr, Bool, List, [], is_some, Option, Some, None, Result, Ok, Err, IsErrOf, sym, ap, subst, ◌∙◌}
use Rattle.std.specs.Prelude.{option_map}
use Rattle.std.specs.Option.{unwrap_or}
use Rattle.cov_tables.specs.declared.cells.RowCells.{RowCells}
use Rattle.sqlite.specs.Effect.{Database}
use Rattle.sqlite.specs.State.{State, IsUnchanged, IsRolledBack}
use Rattle.sqlite.proofs.Callers.{unchanged_then}
use Rattle.cov_sql.specs.declared.errors.SqlError.{SqlError}
use Rattle.cov_sql.specs.declared.errors.SqlError.TheVariants.{NotSchema7}
use Rattle.sqlite_value.specs.Order.{Row}
use Rattle.cov_sql.specs.Tables.{Shape, rows_in, hits}
use Rattle.cov_sql.specs.Cells.{AreRowsIn}
use Rattle.cov_sql.specs.Content.{AreCounts}
use Rattle.cov_sql.specs.declared.statements.StatementError.{StatementError}
use Rattle.cov_sql.specs.declared.statements.StatementError.TheVariants.{Missing}
use Rattle.cov_sql.specs.Refusals.{refusal}
use Rattle.cov_sql.specs.Told.{Lists, Answers, EndsAs}
use Rattle.cov_sql.specs.Finds.{Finds, HoldsRows, HoldsCounts, LacksTable}
use Rattle.cov_sql.proofs.Stepping.{refused_as}

pub now_is : (a b : State) → IsUnchanged a b → b.now ≡ a.now
now_is a b u = u.0.now_is

rolled_then : (a b c : State) → IsUnchanged a b → IsRolledBack b c → IsRolledBack a c
rolled_then a b c u r = record {
  was_open = λ o. u.0.was_open;
  undone = λ o. let both = r.undone o in (both.0 ∙ u.0.committed_is, both.1 ∙ u.0.committed_is);
  autocommit = r.autocommit;
  unmarked = r.unmarked;
  counts = record { changes = r.counts.changes ∙ u.1.changes; last_rowid = r.counts.last_rowid ∙ u.1.last_rowid };
}

pub ends_then : (a b c : State) → IsUnchanged a b → EndsAs b c → EndsAs a c
ends_then a b c u (inl v) = inl (unchanged_then a b c u v)
ends_then a b c u (inr r) = inr (rolled_then a b c u r)

module _ {X : Type 0} (Holds : Database → X → Type 0) (Lacks : Database → Type 0) where
  -- a later step, seen from before the earlier ones
  pub later : (a b c : State) (r : Result X SqlError) → IsUnchanged a b → Finds Holds Lacks b c r → Finds Holds Lacks a c r
  later a b c (Ok x) u f = record {
    rows = subst (λ db. Holds db x) (now_is a b u) f.rows;
    missing = λ no. absurd cc;
    kept = unchanged_then a b c u f.kept;
    ends = ends_then a b c u f.ends;
  }
  later a b c (Err e) u f = record {
    rows = tt;
    missing = λ is. let m = f.missing is in (subst Lacks (now_is a b u) m.0, unchanged_then a b c u m.1);
    kept = tt;
    ends = ends_then a b c u f.ends;
  }

  as_err : {Y : Type 0} (e v : SqlError) → IsErrOf {T = Y} (Err e) v → IsErrOf {T = X} (Err e) v
  as_err e v is = (let same : e ≡ v = cc in ap Err same)

  -- a step that failed ends the whole
  pub stopped : {Y : Type 0} (Gives : Database → Y → Type 0) (Misses : Database → Type 0) (a c : State) (e : SqlError) → (Lacks a.now → Misses a.now) → Finds Holds Lacks a c (Err e) → Finds Gives Misses a c (Err e)
  stopped Gives Misses a c e worse f = record { rows = tt; missing = λ is. let m = f.missing (as_err e NotSchema7 is) in (worse m.0, m.1); kept = tt; ends = f.ends }

  pub went : (a c : State) (x : X) → Holds a.now x → IsUnchanged a c → Finds Holds Lacks a c (Ok x)
  went a c x holds u = record { rows = holds; missing = λ no. absurd cc; kept = u; ends = inl u }

-- what a statement that reads tells, as a step of reading
pub sought : (t : Shape) (a b : State) (v : Lists) → Answers t a b (Ok v) → Finds (HoldsRows t) (LacksTable t) a b (Ok v)
sought t a b v told = record { rows = told.rows; missing = λ no. absurd cc; kept = told.kept; ends = told.ends }

pub unsought : (t : Shape) (a b : State) (e : StatementError) → Answers t a b (Err e) → Finds (HoldsRows t) (LacksTable t) a b (Err (refusal e))
unsought t a b e told = record {
  rows = tt;
  missing = λ no. let is : e ≡ Missing = refused_as e (let same : refusal e ≡ NotSchema7 = cc in same) in (told.missing (ap Err is), told.unfound (ap Err is));
  kept = tt;
  ends = told.ends;
}

-- the rows of the table of counts, or none
pub counts_given : (db : Database) (b : Bool) (o : Option Lists) (items : List RowCells) → b ≡ is_some o → items ≡ unwrap_or (option_map (λ v. v.items) o) [] → HoldsCounts db o → AreCounts db b items
counts_given db b None items is same h = subst (λ c. AreCounts db c items) (sym is) (h, same)
counts_given db b (Some v) items is same h = subst (λ c. AreCounts db c items) (sym is) (subst (AreRowsIn hits db) (sym same) h)

pub holds_table : (t : Shape) (db : Database) (items : List RowCells) → AreRowsIn t db items → rows_in t db ≢ None
holds_table t db items h none = absurd (let both : ◌≡◌ {A = Option (List Row)} (Some h.0) None = sym h.2 ∙ none in cc)
