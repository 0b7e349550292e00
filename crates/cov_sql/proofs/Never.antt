-- Where all tables have their columns, a text of writing names none as absent, and leaves the schema
-- as it was.
--     CanWrite               all tables have their columns
--     reaches_readable       texts of writing leave them so
--     lacks_nothing          no text after others names a table or a column as absent
use Rattle.std.proofs.Common.{◌≡◌, inl, inr, ℕ, ℤ, List, [], ◌∷◌, slice_get, Bool, true, false, MatchBool, Option, Some, None, option_map, option_and_then, Result, Ok, Err, if◌then◌else◌, refl, sym, ap, subst, ◌∙◌}
use Rattle.std.specs.List.{AllByRecursion, fold}
use Rattle.std.specs.Ordering.{is_lt, int_cmp}
use Rattle.sqlite.specs.Edit.{edit_of}
use Rattle.sqlite_value.specs.Order.{Row}
use Rattle.sqlite_trees.specs.declared.store.Store.{Ghosts}
use Rattle.sqlite_trees.specs.Tree.{Trees}
use Rattle.sqlite_typing.specs.Types.{accepts_program}
use Rattle.sqlite_schema.specs.Names.{table_named}
use Rattle.sqlite_schema.specs.declared.schema.Schema.{Schema}
use Rattle.sqlite_schema.specs.declared.schema.Table.{Table}
use Rattle.sqlite_schema.specs.declared.program.Program.{Program}
use Rattle.sqlite_schema.specs.declared.command.Source.{Source}
use Rattle.sqlite_schema.specs.declared.command.Source.TheVariants as source
use Rattle.sqlite_schema.specs.declared.command.Command.{Command}
use Rattle.sqlite_schema.specs.declared.command.Command.TheVariants as command
use Rattle.sqlite_rules.specs.declared.error.Refusal.{Refusal}
use Rattle.sqlite_rules.specs.declared.error.Refusal.TheVariants as why
use Rattle.sqlite_resolve.specs.declared.compiled.Compiled.{Compiled}
use Rattle.sqlite_resolve.specs.declared.error.CompileError.{CompileError}
use Rattle.sqlite_resolve.specs.declared.error.CompileError.TheVariants.{NoSuchTable, Mismatch}
use Rattle.sqlite_resolve.specs.Lowering.{and_then}
use Rattle.sqlite_resolve.specs.Compile.{compiled}
use Rattle.sqlite.specs.declared.error.Error.{Error}
use Rattle.sqlite.specs.declared.error.Error.TheVariants.{SqlInputError, InvalidQuery}
use Rattle.sqlite.specs.declared.run.Mode.{Mode}
use Rattle.sqlite.specs.Effect.{Database, RefusesQuery, RefusesSource, edit_error}
use Rattle.sqlite.specs.Rows as rows
use Rattle.sqlite.specs.Rows.{Gives, Queried, Sourced, Written, Task, stamped}
use Rattle.sqlite.specs.Does.{Tally, Does, Concludes, OnRows}
use Rattle.sqlite.specs.Clock.{timed}
use Rattle.sqlite.specs.Held.{Held, state}
use Rattle.sqlite.specs.Listing.{understood, misses_table}
use Rattle.sqlite.specs.State.{State, Executes, IsMisplaced, Runs, RunsCommand, mode_of, text_of, shows_rows}
use Rattle.cov_sql.specs.declared.tables.Table.{Table as Name}
use Rattle.cov_sql.specs.declared.tables.Table.TheVariants as name
use Rattle.cov_sql.specs.ByName.{shape_of, declared_as}
use Rattle.cov_sql.specs.Told.{IsAbsence}
use Rattle.cov_sql.specs.Written.{WasAbsent}
use Rattle.cov_sql.specs.SqlTexts.{written_texts}
use Rattle.cov_sql.specs.Works.{Step, RanAll, Reaches, NamesAbsent}
use Rattle.cov_sql.specs.Tables.{places_in}
use Rattle.cov_sql.specs.Making.{HasColumns}
use Rattle.cov_sql.proofs.Shows.{understood_as, never}
use Rattle.cov_sql.proofs.Creates.{IsCreate, is_taken, never_twice, never_taken, none_absent}
use Rattle.cov_sql.proofs.Growing.{faultless}
use Rattle.cov_sql.proofs.RowTexts.{Sure, no_mismatch, IsRow, made as row_made, the_base, the_rows, row_is, rows_sure, row_of_coverage_schema, row_of_meta, row_of_file, row_of_context, row_of_line_bits, row_of_arc, row_of_hits}
use Rattle.cov_sql.proofs.Adds.{went, same_value}
use Rattle.cov_sql.proofs.Deletes.{IsDelete, rowids, made, delete_is}
use Rattle.cov_sql.proofs.CreateTexts.{makes_coverage_schema, makes_meta, makes_file, makes_context, makes_line_bits, makes_arc, makes_tracer, makes_hits}
use Rattle.cov_sql.proofs.DeleteTexts.{deletes_meta, deletes_file, deletes_context, deletes_line_bits, deletes_arc, deletes_tracer, deletes_hits}
use Rattle.cov_sql.proofs.Holding.{at_each}

-- where a table with its columns is
abbrev AtPlace : Name → Schema → Type 0
AtPlace n schema = (at : ℕ) × (u : Table) × (ps : List ℕ) × (table_named schema (shape_of n).name ≡ Some at) × (slice_get schema.tables at ≡ Some u) × (places_in u (shape_of n).columns ≡ Some ps)

placed : (n : Name) (schema : Schema) → HasColumns n schema → AtPlace n schema
placed n schema h = by (table_named schema (shape_of n).name) refl h.there
  where
    by : (o : Option ℕ) → table_named schema (shape_of n).name ≡ o → option_and_then (slice_get schema.tables) o ≡ Some h.table → AtPlace n schema
    by (Some at) named is = (at, h.table, h.places, named, is, h.are)
    by None named is = absurd (let no = is in cc)

-- a text that is refused for no name is understood so
not_missing : (e : CompileError) → ¬ IsAbsence e → misses_table (Err e) ≡ false
not_missing NoSuchTable sure = absurd (sure (inl refl))
not_missing e sure = refl

-- ---- why a row is not written: never for what the text names

same_stop : {A : Type 0} (x y : Option Error) → ◌≡◌ {A = Result A (Option Error)} (Err x) (Err y) → x ≡ y
same_stop x y is = cc

same_some : (x y : Error) → Some x ≡ Some y → x ≡ y
same_some x y is = cc

module _ (e : CompileError) where
  no_query : (limit : Option ℕ) (db : Database) (p : Program) (params : Row) → ¬ RefusesQuery limit db p params (SqlInputError e)
  no_query limit db p params (inl h) = let one = h.0 in cc
  no_query limit db p params (inr (inl h)) = let one = h.0 in cc
  no_query limit db p params (inr (inr h)) = let one = h.0 in cc

  no_source : (limit : Option ℕ) (db : Database) (params : Row) (from : Source) → ¬ RefusesSource limit db params from (SqlInputError e)
  no_source limit db params (source.Values terms width) (inl h) = let one = h.0 in cc
  no_source limit db params (source.Values terms width) (inr h) = let one = h.0 in cc
  no_source limit db params (source.Query q) h = no_query limit db q params h

  no_edit : (refused : Option Refusal) → option_map edit_error refused ≡ Some (SqlInputError e) → ⊥
  no_edit None is = cc
  no_edit (Some (why.Violates rule)) is = cc
  no_edit (Some why.Mismatch) is = cc
  no_edit (Some why.BadReference) is = cc
  no_edit (Some why.NoRowid) is = cc
  no_edit (Some why.TooDeep) is = cc

  no_sourced : (limit : Option ℕ) (db : Database) (params : Row) (from : Source) (stop : Option Error) → Sourced limit db params from (Err stop) → stop ≡ Some (SqlInputError e) → ⊥
  no_sourced limit db params from None h is = absurd h
  no_sourced limit db params from (Some x) h is = no_source limit db params from (subst (RefusesSource limit db params from) (same_some x (SqlInputError e) is) h)

  no_queried : (limit : Option ℕ) (db : Database) (p : Program) (params : Row) (stop : Option Error) → Queried limit db p params (Err stop) → stop ≡ Some (SqlInputError e) → ⊥
  no_queried limit db p params None h is = absurd h
  no_queried limit db p params (Some x) h is = no_query limit db p params (subst (RefusesQuery limit db p params) (same_some x (SqlInputError e) is) h)

  no_counter : (task : Task) (b : Bool) (o : Option Table) (db : Trees) (stop : Option Error) → MatchBool b (rows.CounterIn task db o (Err stop)) (Gives {A = Option Row} None (Err stop)) → stop ≡ Some (SqlInputError e) → ⊥
  no_counter task true None db stop h is = (let other = same_some InvalidQuery (SqlInputError e) (sym (same_stop {A = Option Row} stop (Some InvalidQuery) h) ∙ is) in cc)
  no_counter task true (Some counters) db stop h is = cc
  no_counter task false o db stop h is = cc

  no_counts : (task : Task) (db : Trees) (counter : Option Row) (top : ℤ) (stop : Option Error) → rows.Counts task db counter top (Err stop) → stop ≡ Some (SqlInputError e) → ⊥
  no_counts task db counter top stop h is = by (if task.table.is_counted then is_lt (int_cmp (rows.count_of counter) top) else false) (rows.sequence task.schema) h
    where
      by : (b : Bool) (o : Option Table) → MatchBool b (rows.CountsIn task db counter top o (Err stop)) (Gives db (Err stop)) → ⊥
      by true None h = (let other = same_some InvalidQuery (SqlInputError e) (sym (same_stop {A = Trees} stop (Some InvalidQuery) h) ∙ is) in cc)
      by true (Some counters) (refused, writes, stops) = no_edit refused (sym stops ∙ is)
      by false o h = cc

  no_inserts : (task : Task) (from : Source) (db : Trees) (stop : Option Error) → rows.Inserts task from db (Err stop) → stop ≡ Some (SqlInputError e) → ⊥
  no_inserts task from db stop (inl (s, sourced, one)) is =
      no_sourced task.limit (record { schema = task.schema; trees = db }) (stamped task.table task.params) from s sourced (sym (same_stop {A = Written} stop s one) ∙ is)
  no_inserts task from db stop (inr (all, sourced, inl (s, counter, one))) is = no_counter task task.table.is_counted (rows.sequence task.schema) db s counter (sym (same_stop {A = Written} stop s one) ∙ is)
  no_inserts task from db stop (inr (all, sourced, inr (counter, counted, inl (s, (refused, writes, stops), one)))) is = no_edit refused (sym stops ∙ sym (same_stop {A = Written} stop s one) ∙ is)
  no_inserts task from db stop (inr (all, sourced, inr (counter, counted, inr (mid, edited, inl (s, counts, one))))) is =
      no_counts task mid counter (fold rows.higher (rows.count_of counter) (edit_of db task.table [] (rows.rowids_for task.table (rows.count_of counter)) 0 all).news) s counts (sym (same_stop {A = Written} stop s one) ∙ is)
  no_inserts task from db stop (inr (all, sourced, inr (counter, counted, inr (mid, edited, inr (next, counts, given))))) is = cc

  no_deletes : (task : Task) (q : Program) (db : Trees) (stop : Option Error) → rows.Deletes task q db (Err stop) → stop ≡ Some (SqlInputError e) → ⊥
  no_deletes task q db stop (inl (s, queried, one)) is = no_queried task.limit (record { schema = task.schema; trees = db }) q task.params s queried (sym (same_stop {A = Written} stop s one) ∙ is)
  no_deletes task q db stop (inr (all, queried, inl (s, (refused, writes, stops), one))) is = no_edit refused (sym stops ∙ sym (same_stop {A = Written} stop s one) ∙ is)
  no_deletes task q db stop (inr (all, queried, inr (next, edited, given))) is = cc

  no_conclusion : (task : Task) (mode : Mode) (w : Written) → Concludes task mode None w (Err (Some (SqlInputError e))) → ⊥
  no_conclusion task mode w (inl (s, tested, one)) = (let two = tested.1 in cc)
  no_conclusion task mode w (inr (doubt, tested, inl (s, returned, one))) = cc
  no_conclusion task mode w (inr (doubt, tested, inr (all, returned, given))) = cc

  insert_on : (task : Task) (mode : Mode) (at : ℕ) (from : Source) (db : Trees) → OnRows task mode None (command.Insert at from) db (Err (Some (SqlInputError e))) → ⊥
  insert_on task mode at from db (inl (s, all, one)) = no_inserts task from db s all (sym (same_stop {A = Tally × Database} (Some (SqlInputError e)) s one))
  insert_on task mode at from db (inr (w, all, ends)) = no_conclusion task mode w ends

  delete_on : (task : Task) (mode : Mode) (at : ℕ) (q : Program) (db : Trees) → OnRows task mode None (command.Delete at q) db (Err (Some (SqlInputError e))) → ⊥
  delete_on task mode at q db (inl (s, all, one)) = no_deletes task q db s all (sym (same_stop {A = Tally × Database} (Some (SqlInputError e)) s one))
  delete_on task mode at q db (inr (w, all, ends)) = no_conclusion task mode w ends

  module _ (limit : Option ℕ) (mode : Mode) (params : Row) (db : Database) (text : List ℕ) (at : ℕ) (t : Table) (is : slice_get db.schema.tables at ≡ Some t) where
    abbrev the_task : Task
    the_task = record { limit = limit; keys = mode.keys; schema = db.schema; table = t; params = params }

    no_insert : (from : Source) → Does limit mode params db text None (command.Insert at from) (Err (Some (SqlInputError e))) → ⊥
    no_insert from h = insert_on the_task mode at from db.trees (rw is at h)

    no_delete : (q : Program) → Does limit mode params db text None (command.Delete at q) (Err (Some (SqlInputError e))) → ⊥
    no_delete q h = delete_on the_task mode at q db.trees (rw is at h)

misplaced : (s : State) (c : Command) (e : CompileError) → IsMisplaced s c (SqlInputError e) → ⊥
misplaced s c e (inl (is, more)) = cc
misplaced s c e (inr (is, name, which, unnamed)) = cc

-- ---- each text

module _ (params : Row) (old new : State) (w : (n : Name) → HasColumns n old.now.schema) where
  abbrev schema : Schema
  schema = old.now.schema

  -- a text that is understood is refused for no name, where its command isn't
  not_refused : (text : List ℕ) (c : Compiled) → understood schema text ≡ Ok c → shows_rows false c ≡ false
      → ((e : CompileError) (p : Row) → Does old.step_limit (mode_of old) p old.now (text_of text c) c.returning c.command (Err (Some (SqlInputError e))) → ⊥) → ¬ WasAbsent text params old new
  unfolding Rattle.sqlite.specs.State.ExecutesIn Rattle.sqlite.specs.State.IsNotRun
  not_refused text c read quiet none (e, which, h) = found h
    where
      ran : (p : Row) → RunsCommand old new text c p (Err (SqlInputError e)) → ⊥
      ran p (inl (inl wrong, unchanged)) = misplaced old c.command e wrong
      ran p (inl (inr (may, does), unchanged)) = none e p does
      ran p (inr fault) = faultless old new e fault

      found : Executes text params old new (Err (SqlInputError e)) → ⊥
      found (inl (inl (inl (fault, other, one), unchanged))) = never schema text fault c other read
      found (inl (inl (inr (k, other, inl many), unchanged))) = (let two = many.1 in cc)
      found (inl (inl (inr (k, other, inr (inl count)), unchanged))) = (let two = count.1 in cc)
      found (inl (inl (inr (k, other, inr (inr time)), unchanged))) = (let two = time.1 in cc)
      found (inl (inr fault)) = faultless old new e fault
      found (inr (k, it, more)) =
          let same : k ≡ c = (let both : ◌≡◌ {A = Result Compiled CompileError} (Ok k) (Ok c) = sym it.is ∙ read in cc) in
          ran (timed params c.formats it.now) (rw quiet at (rw same at more))

  -- nor is one that is refused for another cause
  refused_else : (text : List ℕ) (e : CompileError) → ¬ IsAbsence e → understood schema text ≡ Err e → ¬ WasAbsent text params old new
  refused_else text e sure refused = none_absent text params old new e (λ f which same. sure (subst IsAbsence same which)) refused

  not_run : (text : List ℕ) (e : CompileError) → understood schema text ≡ Err e → (count : ℕ) → ¬ Executes text params old new (Ok count)
  unfolding Rattle.sqlite.specs.State.ExecutesIn
  not_run text e refused count h = never schema text e h.0 refused h.1.is

  -- what a text that is understood writes
  written : (text : List ℕ) (c : Compiled) → understood schema text ≡ Ok c → shows_rows false c ≡ false → (count : ℕ) → Executes text params old new (Ok count)
      → (p : Row) × Runs old new c.returning c.command (text_of text c) p count
  unfolding Rattle.sqlite.specs.State.ExecutesIn
  written text c read quiet count (k, it, more) =
      let same : k ≡ c = (let both : ◌≡◌ {A = Result Compiled CompileError} (Ok k) (Ok c) = sym it.is ∙ read in cc) in
      (timed params c.formats it.now, rw quiet at (rw same at more))

  creates_refuse : (text : List ℕ) (n : Name) → IsCreate text (shape_of n).name (declared_as n) → ¬ WasAbsent text params old new
  creates_refuse text n i =
      let t = placed n schema (w n) in
      never_taken text (shape_of n).name (declared_as n) i params old new (is_taken schema text (shape_of n).name (declared_as n) i t.0 t.3)

  creates_keep : (text : List ℕ) (n : Name) → IsCreate text (shape_of n).name (declared_as n) → (count : ℕ) → Executes text params old new (Ok count) → new.now.schema ≡ schema
  creates_keep text n i count h =
      let t = placed n schema (w n) in
      absurd (never_twice text (shape_of n).name (declared_as n) i params old new (is_taken schema text (shape_of n).name (declared_as n) i t.0 t.3) count h)

  module _ (text : List ℕ) (n : Name) (i : IsRow text (shape_of n)) where
    abbrev spot : AtPlace n schema
    spot = placed n schema (w n)

    abbrev row : Source → Compiled
    row = row_made text (shape_of n) i schema spot.0 spot.1 spot.3 spot.4

    abbrev given : Result Source CompileError
    given = the_rows text (shape_of n) i schema spot.0 spot.1 spot.3 spot.4

    is_sure : Sure given
    is_sure = rows_sure text (shape_of n) i schema spot.1 (the_base text (shape_of n) i schema spot.0 spot.1 spot.3 spot.4) spot.2 spot.5

    inserts_refuse : ¬ WasAbsent text params old new
    inserts_refuse = by given (row_is text (shape_of n) i schema spot.0 spot.1 spot.3 spot.4 given refl) is_sure
      where
        by : (r : Result Source CompileError) → compiled schema text ≡ and_then r (λ s. Ok (row s)) → Sure r → ¬ WasAbsent text params old new
        by (Ok s) h sure = not_refused text (row s) (understood_as schema text _ h refl) refl (λ e p. no_insert e old.step_limit (mode_of old) p old.now [] spot.0 spot.1 spot.4 s)
        by (Err e) h sure = refused_else text e sure (understood_as schema text _ h (not_missing e sure))

    inserts_keep : (count : ℕ) → Executes text params old new (Ok count) → new.now.schema ≡ schema
    inserts_keep count h = by given (row_is text (shape_of n) i schema spot.0 spot.1 spot.3 spot.4 given refl) is_sure
      where
        by : (r : Result Source CompileError) → compiled schema text ≡ and_then r (λ s. Ok (row s)) → Sure r → new.now.schema ≡ schema
        by (Ok s) found sure =
            let ran = (written text (row s) (understood_as schema text _ found refl) refl count h).1 in
            let done = went (rw spot.4 at ran.changed) in
            let now = ap (λ (p : Tally × Database). p.1) (same_value (went (went done.2).2).2) in
            ap (λ (d : Database). d.schema) now
        by (Err e) found sure = absurd (not_run text e (understood_as schema text _ found (not_missing e sure)) count h)

  module _ (text : List ℕ) (n : Name) (i : IsDelete text (shape_of n).name) where
    abbrev stead : AtPlace n schema
    stead = placed n schema (w n)

    abbrev emptied : Table
    emptied = stead.1

    abbrev it : Compiled
    it = made schema text (shape_of n).name i stead.0 stead.3 emptied stead.4

    abbrev Reads : Bool → Type 0
    Reads b = compiled schema text ≡ (if b then Ok it else Err Mismatch)

    reads : Reads (accepts_program schema [] (rowids emptied.tree) [])
    reads = delete_is schema text (shape_of n).name i stead.0 stead.3 emptied stead.4

    refuse_by : (b : Bool) → Reads b → ¬ WasAbsent text params old new
    refuse_by true h = not_refused text it (understood_as schema text _ h refl) refl (λ e p. no_delete e old.step_limit (mode_of old) p old.now [] stead.0 emptied stead.4 (record { lets = []; body = rowids emptied.tree }))
    refuse_by false h = refused_else text Mismatch no_mismatch (understood_as schema text _ h refl)

    deletes_refuse : ¬ WasAbsent text params old new
    deletes_refuse = refuse_by (accepts_program schema [] (rowids emptied.tree) []) reads

    keep_by : (b : Bool) → Reads b → (count : ℕ) → Executes text params old new (Ok count) → new.now.schema ≡ schema
    keep_by false refused count h = absurd (not_run text Mismatch (understood_as schema text _ refused refl) count h)
    keep_by true found count h =
        let ran = (written text it (understood_as schema text _ found refl) refl count h).1 in
        let done = went (rw stead.4 at ran.changed) in
        let now = ap (λ (p : Tally × Database). p.1) (same_value (went (went done.2).2).2) in
        ap (λ (d : Database). d.schema) now

    deletes_keep : (count : ℕ) → Executes text params old new (Ok count) → new.now.schema ≡ schema
    deletes_keep = keep_by (accepts_program schema [] (rowids emptied.tree) []) reads

  nothing_absent : AllByRecursion (λ text. ¬ WasAbsent text params old new) written_texts
  nothing_absent = (
    creates_refuse _ name.CoverageSchema makes_coverage_schema,
    (
      creates_refuse _ name.Meta makes_meta,
      (
        creates_refuse _ name.File makes_file,
        (
          creates_refuse _ name.Context makes_context,
          (
            creates_refuse _ name.LineBits makes_line_bits,
            (
              creates_refuse _ name.Arc makes_arc,
              (
                creates_refuse _ name.Tracer makes_tracer,
                (
                  creates_refuse _ name.Hits makes_hits,
                  (
                    inserts_refuse _ name.CoverageSchema row_of_coverage_schema,
                    (
                      inserts_refuse _ name.Meta row_of_meta,
                      (
                        inserts_refuse _ name.File row_of_file,
                        (
                          inserts_refuse _ name.Context row_of_context,
                          (
                            inserts_refuse _ name.LineBits row_of_line_bits,
                            (
                              inserts_refuse _ name.Arc row_of_arc,
                              (
                                inserts_refuse _ name.Hits row_of_hits,
                                (
                                  deletes_refuse _ name.Meta deletes_meta,
                                  (
                                    deletes_refuse _ name.File deletes_file,
                                    (
                                      deletes_refuse _ name.Context deletes_context,
                                      (
                                        deletes_refuse _ name.LineBits deletes_line_bits,
                                        (
                                          deletes_refuse _ name.Arc deletes_arc,
                                          (
                                            deletes_refuse _ name.Tracer deletes_tracer,
                                            (
                                              deletes_refuse _ name.Hits deletes_hits,
                                              tt,
                                            ),
                                          ),
                                        ),
                                      ),
                                    ),
                                  ),
                                ),
                              ),
                            ),
                          ),
                        ),
                      ),
                    ),
                  ),
                ),
              ),
            ),
          ),
        ),
      ),
    ),
  )

  all_keep : (count : ℕ) → AllByRecursion (λ text. Executes text params old new (Ok count) → new.now.schema ≡ schema) written_texts
  all_keep count = (
    creates_keep _ name.CoverageSchema makes_coverage_schema count,
    (
      creates_keep _ name.Meta makes_meta count,
      (
        creates_keep _ name.File makes_file count,
        (
          creates_keep _ name.Context makes_context count,
          (
            creates_keep _ name.LineBits makes_line_bits count,
            (
              creates_keep _ name.Arc makes_arc count,
              (
                creates_keep _ name.Tracer makes_tracer count,
                (
                  creates_keep _ name.Hits makes_hits count,
                  (
                    inserts_keep _ name.CoverageSchema row_of_coverage_schema count,
                    (
                      inserts_keep _ name.Meta row_of_meta count,
                      (
                        inserts_keep _ name.File row_of_file count,
                        (
                          inserts_keep _ name.Context row_of_context count,
                          (
                            inserts_keep _ name.LineBits row_of_line_bits count,
                            (
                              inserts_keep _ name.Arc row_of_arc count,
                              (
                                inserts_keep _ name.Hits row_of_hits count,
                                (
                                  deletes_keep _ name.Meta deletes_meta count,
                                  (
                                    deletes_keep _ name.File deletes_file count,
                                    (
                                      deletes_keep _ name.Context deletes_context count,
                                      (
                                        deletes_keep _ name.LineBits deletes_line_bits count,
                                        (
                                          deletes_keep _ name.Arc deletes_arc count,
                                          (
                                            deletes_keep _ name.Tracer deletes_tracer count,
                                            (
                                              deletes_keep _ name.Hits deletes_hits count,
                                              tt,
                                            ),
                                          ),
                                        ),
                                      ),
                                    ),
                                  ),
                                ),
                              ),
                            ),
                          ),
                        ),
                      ),
                    ),
                  ),
                ),
              ),
            ),
          ),
        ),
      ),
    ),
  )

-- ---- one after the other

module _ {S : Type 0} (g : Ghosts S) where
  abbrev pub CanWrite : Held S → Type 0
  CanWrite h = (n : Name) → HasColumns n (state g h).now.schema

  stay_readable : (a : Held S) (steps : List (Step S)) (b : Held S) → RanAll g a steps b → CanWrite a → CanWrite b
  stay_readable a [] b ran w = subst CanWrite ran w
  stay_readable a (s ∷ ss) b ran w =
      let keeps = at_each (λ text. Executes text s.params (state g a) (state g s.next) (Ok ran.1.0) → (state g s.next).now.schema ≡ (state g a).now.schema) written_texts ran.0.0 s.text
      (all_keep s.params (state g a) (state g s.next) w ran.1.0) ran.0.1 in
      stay_readable s.next ss b ran.2 (λ n. subst (HasColumns n) (sym (keeps ran.1.1)) (w n))

  pub reaches_readable : (a b : Held S) → Reaches g a b → CanWrite a → CanWrite b
  reaches_readable a b h = stay_readable a h.0 b h.1

  pub lacks_nothing : (a : Held S) → CanWrite a → ¬ NamesAbsent g a
  lacks_nothing a w n =
      at_each (λ text. ¬ WasAbsent text n.params (state g n.last) (state g n.new)) written_texts n.is.0 n.text
      (nothing_absent n.params (state g n.last) (state g n.new) (stay_readable a n.reached.0 n.last n.reached.1 w)) n.is.1 n.absent
