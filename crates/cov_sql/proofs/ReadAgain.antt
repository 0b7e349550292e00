-- Data that are saved are read again.
use Rattle.std.proofs.Common.{◌≡◌, inl, Bool, true, false, refl, ap, sym, subst, ◌∙◌}
use Rattle.sqlite_trees.specs.declared.store.Store.{Ghosts}
use Rattle.sqlite.specs.Effect.{Database}
use Rattle.sqlite.specs.Held.{state}
use Rattle.cov_data.specs.DataSet.{DataSet, IsSound}
use Rattle.cov_data.specs.Rows.{paths_of, rows_of}
use Rattle.cov_vault.specs.declared.vault.Content.TheVariants.{Good}
use Rattle.cov_tables.specs.Content.{content}
use Rattle.cov_sql.specs.declared.saved.Saved.{Saved}
use Rattle.cov_sql.specs.Content.{content_in}
use Rattle.cov_sql.specs.Holding.{Holds}
use Rattle.cov_sql.specs.SavedData.{contexts_in, IsSavedOf, saved_rows}
use Rattle.cov_sql.proofs.Judging.{seven}
use Rattle.cov_sql.specs.Laws.{SavedAreRead, SavedIsSchema7, SavedIsReady, IsReadAgain, SavesAreRead}
use Rattle.cov_sql.proofs.Places.{kept}
use Rattle.cov_sql.proofs.Arcs.{arcs_content}
use Rattle.cov_sql.proofs.Lines.{lines_content}
use Rattle.cov_sql.proofs.Fields.{content_held, fields_kept}

-- a base that holds what is kept of data holds what the tables with it mean
held_so : (d : DataSet) (db : Database) (s : Saved) (b : Bool) → IsSavedOf d s → d.arcs ≡ b → Holds db (saved_rows s)
    → content_in db ≡ content (kept b (paths_of d) (contexts_in (rows_of d)) s.rows.items s.bits.items)
held_so d db s b same is h =
    content_held db (saved_rows s) h
    ∙ ap content (fields_kept s)
    ∙ (λ i. content (kept ((same.flag ∙ is) i) (same.paths i) (same.contexts i) s.rows.items s.bits.items))

either : (d : DataSet) (db : Database) (s : Saved) (b : Bool) → IsSound d → IsSavedOf d s → d.arcs ≡ b → Holds db (saved_rows s) → content_in db ≡ Good d
either d db s true sound same is h = held_so d db s true same is h ∙ arcs_content d sound is s.rows.items s.bits.items same.rows
either d db s false sound same is h = held_so d db s false same is h ∙ lines_content d sound is s.rows.items s.bits.items same.rows (same.blobs is)

pub saved_are_read : SavedAreRead
saved_are_read d db sound (s, same, h) = either d db s d.arcs sound same refl h

-- ---- of schema 7

pub saved_is_schema_7 : SavedIsSchema7
saved_is_schema_7 d db (s, same, h) none =
    let ps = paths_of d in
    let cs = contexts_in (rows_of d) in
    seven (kept d.arcs ps cs s.rows.items s.bits.items) refl (sym (held_so d db s d.arcs same refl h) ∙ none)

-- ---- and again

pub saved_is_ready : SavedIsReady
saved_is_ready d db (s, same, h) = inl h.base

pub saves_are_read : {S : Type 0} (g : Ghosts S) → SavesAreRead g
saves_are_read g d fresh old new sound ready (s, now) =
    let db = (state g new).committed in
    let h = s.holds ready in
    subst (IsReadAgain d) (sym now) (record { reads = saved_are_read d db sound h; ready = saved_is_ready d db h })
