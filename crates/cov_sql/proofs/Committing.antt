-- What a save leaves, and what a crash in it may leave.
use Rattle.std.proofs.Common.{◌≡◌, inl, inr, arith, Bool, Ok, refl, sym, subst, ◌∙◌}
use Rattle.sqlite_trees.specs.declared.store.Store.{Ghosts}
use Rattle.sqlite.specs.Held.{Held, state}
use Rattle.sqlite.specs.State.{State, HasCleanDisk, Survives, KeepsCommit, IsRolledBack, Commits}
use Rattle.sqlite.specs.Effect.{Database}
use Rattle.sqlite.proofs.StateLemmas.{survives_then, survives_weaker}
use Rattle.sqlite.proofs.Callers.{survives_begin}
use Rattle.cov_data.specs.DataSet.{DataSet}
use Rattle.cov_sql.specs.declared.saved.Saved.{Saved}
use Rattle.cov_sql.specs.declared.preparing.Start.{Start}
use Rattle.cov_sql.specs.Told.{EndsAs}
use Rattle.cov_sql.specs.Works.{Works}
use Rattle.cov_sql.specs.Making.{IsReady, Saves}
use Rattle.cov_sql.specs.SavedData.{IsSavedOf}
use Rattle.cov_sql.specs.Committed.{Judges, begun, IsSaved, EndsSaved, LeavesSaved}
use Rattle.cov_sql.proofs.Stepping.{keeps_then, reached_commit}

pub keeps_ended : (a b : State) → EndsAs a b → KeepsCommit a b
keeps_ended a b (inl same) = record { was_open = λ o. same.0.was_open; committed = λ o. same.0.committed_is }
keeps_ended a b (inr undone) = record { was_open = undone.was_open; committed = λ o. (undone.undone o).1 }

keeps_undone : (a b : State) → IsRolledBack a b → KeepsCommit a b
keeps_undone a b undone = record { was_open = undone.was_open; committed = λ o. (undone.undone o).1 }

module _ {S : Type 0} (g : Ghosts S) where
  keeps_begun : (b : Held S) (c : State) → KeepsCommit (state g (begun b)) c → KeepsCommit (state g b) c
  keeps_begun b c k = record { was_open = k.was_open; committed = k.committed }

  -- a transaction that was undone leaves what was committed
  pub keeps_all : (a b c e : Held S) → KeepsCommit (state g a) (state g b) → KeepsCommit (state g (begun b)) (state g c) → IsRolledBack (state g c) (state g e) → KeepsCommit (state g a) (state g e)
  keeps_all a b c e one two undone =
      keeps_then (state g a) (state g b) (state g e) one (keeps_then (state g b) (state g c) (state g e) (keeps_begun b (state g c) two) (keeps_undone (state g c) (state g e) undone))

  -- after a transaction that was begun
  pub worked_in : (a b c : Held S) → Survives (state g a) (state g b) (λ _. ⊥) → Survives (state g (begun b)) (state g c) (λ _. ⊥) → Survives (state g a) (state g c) (λ _. ⊥)
  worked_in a b c s t = survives_then (state g a) (state g b) (state g c) (λ _. ⊥) (λ _. ⊥) (λ _. ⊥) (λ _ db none. none) (λ _ db none. none) s (survives_begin g b (state g c) (λ _. ⊥) t)

  module _ (d : DataSet) (fresh : Bool) where
    -- what a crash may leave where nothing is committed
    pub only_read : (a b : Held S) → Survives (state g a) (state g b) (λ _. ⊥) → LeavesSaved g d fresh a b
    only_read a b s = survives_weaker (state g a) (state g b) (λ _. ⊥) (λ trees. (db : Database) × (trees ≡ db.trees) × IsSaved g d fresh a db) (λ _ db none. absurd none) s

    pub undone : (a b c e : Held S) → Survives (state g a) (state g b) (λ _. ⊥) → Survives (state g (begun b)) (state g c) (λ _. ⊥) → Survives (state g c) (state g e) (λ _. ⊥) → LeavesSaved g d fresh a e
    undone a b c e s t u =
        only_read a e (survives_then (state g a) (state g c) (state g e) (λ _. ⊥) (λ _. ⊥) (λ _. ⊥) (λ _ db none. none) (λ _ db none. none) (worked_in a b c s t) u)

    -- the base before the commit
    pub saved_in : (start : Start) (saved : Saved) (a b c : Held S) (v : Unit {0}) → IsSavedOf d saved → Judges fresh (state g a) (state g b) (Ok start) → Survives (state g a) (state g b) (λ _. ⊥)
        → Survives (state g (begun b)) (state g c) (λ _. ⊥) → Works g (begun b) c (Ok v) → Saves g start saved (begun b) c (Ok v)
        → HasCleanDisk (state g c) → IsSaved g d fresh a (state g c).now
    saved_in start saved a b c v of judged left s works told clean =
        let before : HasCleanDisk (state g b) = omega (arith, clean, s.clean) in
        let j = judged before in
        let w = works clean refl in
        let now : (state g b).now ≡ (state g a).now = j.same.0 in
        record {
          read = b;
          same = j.same;
          last = c;
          reached = w.reached;
          is = refl;
          clean = clean;
          inside = w.goes_on;
          kept = reached_commit g (begun b) c w.reached ∙ j.same.1;
          before = worked_in a b c left s;
          holds = λ ready. (saved, of, told clean refl (subst (IsReady start) (sym now) (j.ready ready)));
        }

    -- and after it
    pub committed : (a b c e : Held S) → Survives (state g a) (state g b) (λ _. ⊥) → Survives (state g (begun b)) (state g c) (λ _. ⊥) → Survives (state g c) (state g e) (λ db. db ≡ (state g c).now.trees)
        → (HasCleanDisk (state g c) → IsSaved g d fresh a (state g c).now) → LeavesSaved g d fresh a e
    committed a b c e s t u saved =
        survives_then (state g a) (state g c) (state g e) (λ _. ⊥) (λ db. db ≡ (state g c).now.trees) (λ trees. (db : Database) × (trees ≡ db.trees) × IsSaved g d fresh a db)
        (λ _ db none. absurd none) (λ clean db is. ((state g c).now, is, saved (omega (arith, clean, u.clean)))) (worked_in a b c s t) u

    pub ends_saved : (a c e : Held S) → Commits (state g c) (state g e) → IsSaved g d fresh a (state g c).now → EndsSaved g d fresh a e
    ends_saved a c e h saved = (subst (IsSaved g d fresh a) (sym h.0.committed_is) saved, h.0.now_is ∙ sym h.0.committed_is)
