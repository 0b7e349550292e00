-- Reading the rows of a query one at a time.
use Rattle.std.proofs.Common.{◌≡◌, inl, inr, ℕ, ◌≤◌, List, [], ◌∷◌, ◌++◌, Some, None, Ok, Err, Result, refl, sym, subst}
use Rattle.std.specs.List.{AllZip}
use Rattle.sqlite_value.specs.Order.{Row}
use Rattle.sqlite_trees.specs.declared.store.Store.{Ghosts}
use Rattle.sqlite_resolve.specs.declared.compiled.Compiled.{Compiled}
use Rattle.sqlite_resolve.specs.declared.error.CompileError.{CompileError}
use Rattle.sqlite.specs.declared.error.Error.{Error}
use Rattle.sqlite.specs.Effect.{Database}
use Rattle.sqlite.specs.Held.{Held, state}
use Rattle.sqlite.specs.Listing.{understood, reads_listing, IsSourceOf}
use Rattle.sqlite.specs.Clock.{timed}
use Rattle.sqlite.specs.Effect.{RefusesToRead}
use Rattle.sqlite.specs.Given.{Returns, HasGiven, HasBegun, Advances, FailsToAdvance}
use Rattle.sqlite.specs.State.{State, IsStatement, IsNotRun, IsUnchanged, Shown, ShowsRows, FailsToQuery, FailsToShow}
use Rattle.sqlite.proofs.Callers.{unchanged_then}
use Rattle.sqlite.proofs.StreamLemmas.{fails_since}
use Rattle.cov_tables.specs.declared.cells.RowCells.{RowCells}
use Rattle.cov_sql.specs.Cells.{AreCells}
use Rattle.cov_sql.specs.Shown.{NeverReturns}
use Rattle.cov_sql.proofs.CellLemmas.{zip-push}

-- ---- an answer, seen from before steps that changed nothing

module _ (text : List ℕ) (params : Row) (old mid new : State) (same : IsUnchanged old mid) (plain : NeverReturns text old) where
  source_since : (db : Database) → IsSourceOf (reads_listing mid.now.schema text) mid.now db → IsSourceOf (reads_listing old.now.schema text) old.now db
  source_since db = subst (λ (d : Database). IsSourceOf (reads_listing d.schema text) d db) same.0.now_is

  pub shown_since : (rows : List Row) → Shown text params mid new rows → Shown text params old new rows
  unfolding Shown
  shown_since rows h =
      let known : understood old.now.schema text ≡ Ok h.0 = subst (λ (d : Database). understood d.schema text ≡ Ok h.0) same.0.now_is h.1.is in
      let none = plain h.0 known in
      let full = timed params h.0.formats h.1.now in
      let it = subst (ShowsRows mid new text h.0 full rows) none h.2 in
      let told : IsStatement old text params h.0 = record { is = known; whole = h.1.whole; given = h.1.given; now = h.1.now } in
      (h.0, told, subst (ShowsRows old new text h.0 full rows) (sym none) (it.0, source_since it.0 it.1, it.2, unchanged_then old mid new same it.3))

  pub fails_to_query_since : old.faults ≤ mid.faults → mid.step_limit ≡ old.step_limit → (e : Error) → FailsToQuery text params mid new e → FailsToQuery text params old new e
  unfolding FailsToQuery IsNotRun
  fails_to_query_since counts limit e (inl (inl h)) = inl (inl (rw (← same.0.now_is) h.0, unchanged_then old mid new same h.1))
  fails_to_query_since counts limit e (inl (inr h)) = inl (inr (fails_since old mid new same counts e h))
  fails_to_query_since counts limit e (inr h) =
      let known : understood old.now.schema text ≡ Ok h.0 = subst (λ (d : Database). understood d.schema text ≡ Ok h.0) same.0.now_is h.1.is in
      let none = plain h.0 known in
      let full = timed params h.0.formats h.1.now in
      let it = subst (FailsToShow mid new text h.0 full e) none h.2 in
      let told : IsStatement old text params h.0 = record { is = known; whole = h.1.whole; given = h.1.given; now = h.1.now } in
      inr (
        h.0,
        told,
        subst (FailsToShow old new text h.0 full e) (sym none)
            (it.0, source_since it.0 it.1, subst (λ l. RefusesToRead l h.0.command it.0 full e) limit it.2, unchanged_then old mid new same it.3),
      )

-- ---- a query under way

never_both : (r : Result Compiled CompileError) → ((c : Compiled) → r ≡ Ok c → c.returning ≡ None) → ¬ Returns r
never_both (Ok c) plain some = absurd (let none = rw (plain c refl) at some in cc)
never_both (Err e) plain some = some

-- the rows so far are in these cells, and nothing has changed
pub record IsUnderWay {S : Type 0} (g : Ghosts S) (text : List ℕ) (old now : Held S) (lists : List RowCells) : Type 0 where
  pub shown : List Row
  pub given : HasGiven g text [] now shown
  pub same : IsUnchanged (state g old) (state g now)
  pub cells : AllZip AreCells shown lists

module _ {S : Type 0} (g : Ghosts S) (text : List ℕ) (old : Held S) where
  pub under_way : (now : Held S) → NeverReturns text (state g old) → HasBegun g text [] old now → IsUnderWay g text old now []
  under_way now plain (inl h) = record { shown = []; given = h.0; same = h.1; cells = tt }
  under_way now plain (inr h) = absurd (never_both _ plain h.0)

  pub one_more : (mid new : Held S) (lists : List RowCells) (row : Row) (cells : RowCells) → IsUnderWay g text old mid lists → Advances g mid new (Some row) → IsUnchanged (state g mid) (state g new) → AreCells row cells
      → IsUnderWay g text old new (lists ++ cells ∷ [])
  one_more mid new lists row cells w on same are = record {
    shown = w.shown ++ row ∷ [];
    given = on text [] w.shown w.given;
    same = unchanged_then (state g old) (state g mid) (state g new) w.same same;
    cells = zip-push AreCells w.shown lists row cells w.cells are;
  }

  pub at_end : (mid new : Held S) (lists : List RowCells) → NeverReturns text (state g old) → IsUnderWay g text old mid lists → Advances g mid new None
      → (rows : List Row) × Shown text [] (state g old) (state g new) rows × AllZip AreCells rows lists
  at_end mid new lists plain w on = (w.shown, shown_since text [] (state g old) (state g mid) (state g new) w.same plain w.shown (on text [] w.shown w.given), w.cells)

  pub failed : (mid new : Held S) (lists : List RowCells) (e : Error) → NeverReturns text (state g old) → (state g old).faults ≤ (state g mid).faults → (state g mid).step_limit ≡ (state g old).step_limit
      → IsUnderWay g text old mid lists → FailsToAdvance g mid new e → FailsToQuery text [] (state g old) (state g new) e
  failed mid new lists e plain counts limit w fails = fails_to_query_since text [] (state g old) (state g mid) (state g new) w.same plain counts limit e (fails text [] w.shown w.given)
