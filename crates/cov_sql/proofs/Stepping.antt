-- One step of writing after the other.
use Rattle.std.proofs.Common.{◌≡◌, ◌≤◌, inl, inr, ℕ, List, [], ◌∷◌, ◌++◌, arith, Result, Ok, Err, IsTrue, OnOk, OnErr, refl, sym, subst, ◌∙◌}
use Rattle.sqlite_value.specs.Order.{Row}
use Rattle.sqlite_trees.specs.declared.store.Store.{Ghosts}
use Rattle.sqlite.specs.Held.{Held, state}
use Rattle.sqlite.specs.declared.transaction.Transaction.{Transaction}
use Rattle.sqlite.specs.State.{State, Survives, KeepsCommit}
use Rattle.sqlite.proofs.StateLemmas.{survives_then}
use Rattle.cov_outside.specs.Counts.{Rose}
use Rattle.cov_sql.specs.declared.statements.StatementError.{StatementError}
use Rattle.cov_sql.specs.declared.statements.StatementError.TheVariants.{Missing, Refused, NoMemory}
use Rattle.cov_sql.specs.declared.errors.SqlError.TheVariants as sql
use Rattle.cov_sql.specs.Refusals.{refusal}
use Rattle.cov_sql.specs.SqlTexts.{IsWritten}
use Rattle.cov_sql.specs.Written.{Ran, RunsIn}
use Rattle.cov_sql.specs.Calls.{Does, IsRefused, GoesOn, WorksAs}
use Rattle.cov_sql.specs.Works.{Step, RanAll, Reaches, NamesAbsent, Works}
use Rattle.cov_sql.specs.Steps.{WorksBy}

pub keeps_itself : (a : State) → KeepsCommit a a
keeps_itself a = record { was_open = λ o. o; committed = λ o. refl }

pub keeps_then : (a b c : State) → KeepsCommit a b → KeepsCommit b c → KeepsCommit a c
keeps_then a b c s t = record { was_open = λ o. s.was_open (t.was_open o); committed = λ o. t.committed o ∙ s.committed (t.was_open o) }

module _ {S : Type 0} (g : Ghosts S) where
  -- texts and then others
  ran_both : (a : Held S) (xs : List (Step S)) (b : Held S) (ys : List (Step S)) (c : Held S) → RanAll g a xs b → RanAll g b ys c → RanAll g a (xs ++ ys) c
  ran_both a [] b ys c one two = subst (λ h. RanAll g h ys c) (sym one) two
  ran_both a (x ∷ xs) b ys c one two = (one.0, one.1, ran_both x.next xs b ys c one.2 two)

  pub reached_then : (a b c : Held S) → Reaches g a b → Reaches g b c → Reaches g a c
  reached_then a b c one two = (one.0 ++ two.0, ran_both a one.0 b two.0 c one.1 two.1)

  commit_kept : (a : Held S) (steps : List (Step S)) (b : Held S) → RanAll g a steps b → (state g b).committed ≡ (state g a).committed
  commit_kept a [] b ran = subst (λ h. (state g h).committed ≡ (state g a).committed) ran refl
  commit_kept a (s ∷ ss) b ran = commit_kept s.next ss b ran.2 ∙ ran.1.2.committed_is

  -- what was committed before is so still
  pub reached_commit : (a b : Held S) → Reaches g a b → (state g b).committed ≡ (state g a).committed
  reached_commit a b h = commit_kept a h.0 b h.1

  absent_then : (a b : Held S) → Reaches g a b → NamesAbsent g b → NamesAbsent g a
  absent_then a b one n = record {
    last = n.last;
    reached = reached_then a b n.last one n.reached;
    text = n.text;
    is = n.is;
    params = n.params;
    new = n.new;
    clean = n.clean;
    absent = n.absent;
  }

  inside_then : (text : List ℕ) (a b : State) (r : Result (Unit {0}) StatementError) → OnOk r ((params : Row) × Ran text params a b) → OnOk r (IsTrue b.in_transaction)
  inside_then text a b (Ok v) h = h.1.2.mode
  inside_then text a b (Err e) h = tt

  one_step : (text : List ℕ) (a b : Held S) (r : Result (Unit {0}) StatementError) → IsWritten text → OnOk r ((params : Row) × Ran text params (state g a) (state g b)) → OnOk r (Reaches g a b)
  one_step text a b (Ok v) is h = (record { text = text; params = h.0; next = b } ∷ [], (is, h.1, refl))
  one_step text a b (Err e) is h = tt

  -- what a statement tells
  pub worked : (text : List ℕ) (old new : Held S) (r : Result (Unit {0}) StatementError) → IsWritten text → RunsIn text (state g old) (state g new) r → Works g old new r
  worked text old new r is ran clean inside =
      let it = ran clean inside in
      record {
        goes_on = inside_then text (state g old) (state g new) r it.ran;
        reached = one_step text old new r is it.ran;
        missing = λ no. let m = it.missing no in record { last = old; reached = ([], refl); text = text; is = is; params = m.0; new = new; clean = clean; absent = m.1 };
        kept = it.kept;
      }

  reached_on : (a b c : Held S) (r : Result (Unit {0}) StatementError) → Reaches g a b → OnOk r (Reaches g b c) → OnOk r (Reaches g a c)
  reached_on a b c (Ok v) one two = reached_then a b c one two
  reached_on a b c (Err e) one two = tt

  -- a step after one that went on
  pub works_after : (v : Unit {0}) (a b c : Held S) (r : Result (Unit {0}) StatementError) → Survives (state g b) (state g c) (λ _. ⊥) → Works g a b (Ok v) → Works g b c r → Works g a c r
  works_after v a b c r s one two clean inside =
      let first = one (omega (arith, clean, s.clean)) inside in
      let second = two clean first.goes_on in
      record {
        goes_on = second.goes_on;
        reached = reached_on a b c r first.reached second.reached;
        missing = λ no. absent_then a b first.reached (second.missing no);
        kept = keeps_then (state g a) (state g b) (state g c) first.kept second.kept;
      }

  pub still : (a b c : Held S) → Survives (state g a) (state g b) (λ _. ⊥) → Survives (state g b) (state g c) (λ _. ⊥) → Survives (state g a) (state g c) (λ _. ⊥)
  still a b c s t = survives_then (state g a) (state g b) (state g c) (λ _. ⊥) (λ _. ⊥) (λ _. ⊥) (λ _ _ none. none) (λ _ _ none. none) s t

  reached_itself : (a : Held S) (r : Result (Unit {0}) StatementError) → OnOk r (Reaches g a a)
  reached_itself a (Ok v) = ([], refl)
  reached_itself a (Err e) = tt

  pub nothing_done : (a : Held S) (r : Result (Unit {0}) StatementError) → r ≡ Ok tt → Works g a a r
  nothing_done a r is clean inside = record { goes_on = rw is inside; reached = reached_itself a r; missing = λ no. absurd (let ok = is in cc); kept = keeps_itself (state g a) }

  pub stays : (a : Held S) → Survives (state g a) (state g a) (λ _. ⊥)
  stays a = record { clean = omega arith; shield = λ h. h; counts = omega arith; limit = refl; closes = λ clean is. inl is; crash = λ clean db may. inl may }

rose_later : (a b c : ℕ) → a ≤ b → Rose b c → Rose a c
rose_later a b c low (inl more) = inl (omega (arith, low, more))
rose_later a b c low (inr top) = inr top

-- ---- steps by statements

module _ {S Q : Type 0} {g : Ghosts S} {telling : Q → Type 0} {counted : Q → ℕ} where
  pub works_none : (a : Transaction S) (p : Q) → WorksBy g telling counted a a p p (Ok tt)
  works_none a p = record {
    works = λ tells. nothing_done g a.conn.now (Ok tt) refl;
    survives = λ tells. stays g a.conn.now;
    goes_on = record { tells = λ tells. tells; count = omega arith; refused = λ no. absurd (let ok = no in cc) };
    same_reference = refl;
  }

  -- a statement that was run
  pub works_one : {text : List ℕ} {does : Does} {a b : Transaction S} {p q : Q} {r : Result (Unit {0}) StatementError} → IsWritten text → (telling p → WorksAs g text does a.conn.now b.conn.now r)
      → GoesOn telling counted p q (IsRefused r) → b.conn.ghost_name ≡ a.conn.ghost_name → WorksBy g telling counted a b p q r
  works_one {text = text} {a = a} {b = b} {r = r} is one on same = record {
    works = λ tells. worked g text a.conn.now b.conn.now r is (one tells).ran;
    survives = λ tells. (one tells).survives;
    goes_on = on;
    same_reference = same;
  }

  -- a step after one that went on
  pub works_on : {a b c : Transaction S} {p q s : Q} {v : Unit {0}} {r : Result (Unit {0}) StatementError} → WorksBy g telling counted a b p q (Ok v) → WorksBy g telling counted b c q s r → WorksBy g telling counted a c p s r
  works_on {a = a} {b = b} {c = c} {p = p} {q = q} {s = s} {v = v} {r = r} one two = record {
    works = λ tells. let told = one.goes_on.tells tells in works_after g v a.conn.now b.conn.now c.conn.now r (two.survives told) (one.works tells) (two.works told);
    survives = λ tells. still g a.conn.now b.conn.now c.conn.now (one.survives tells) (two.survives (one.goes_on.tells tells));
    goes_on = record {
      tells = λ tells. two.goes_on.tells (one.goes_on.tells tells);
      count = omega (arith, one.goes_on.count, two.goes_on.count);
      refused = λ no. rose_later (counted p) (counted q) (counted s) one.goes_on.count (two.goes_on.refused no);
    };
    same_reference = two.same_reference ∙ one.same_reference;
  }

  -- one that failed ends the whole
  pub works_end : {a b : Transaction S} {p q : Q} {e : StatementError} {r : Result (Unit {0}) StatementError} → WorksBy g telling counted a b p q (Err e) → r ≡ Err e → WorksBy g telling counted a b p q r
  works_end {a = a} {b = b} {p = p} {q = q} one is = subst (WorksBy g telling counted a b p q) (sym is) one

-- a base is judged so where a table or a column is named as not there
pub refused_as : (s : StatementError) → refusal s ≡ sql.NotSchema7 → s ≡ Missing
refused_as Missing is = refl
refused_as Refused is = absurd cc
refused_as NoMemory is = absurd cc

pub on_error : {X E : Type 0} {P : Type 0} (r : Result X E) → P → OnErr r P
on_error (Ok x) h = tt
on_error (Err e) h = h
