-- What a statement that reads a table answers where it is there, whatever else the base has.
use Rattle.std.proofs.Common.{◌≡◌, ◌⊎◌, inl, inr, ℕ, List, [], ◌∷◌, map, slice_get, Bool, true, false, Option, Some, None, Ok, Err, Result, if◌then◌else◌, refl, sym, ap, ◌∙◌}
use Rattle.std.specs.List.Sorted.{IsPermutation}
use Rattle.sqlite_value.specs.Order.{Row, column}
use Rattle.sqlite_typing.specs.Types.{accepts_program}
use Rattle.sqlite_schema.specs.Names.{table_named, place_of}
use Rattle.sqlite_schema.specs.declared.schema.Schema.{Schema}
use Rattle.sqlite_schema.specs.declared.schema.Table.{Table}
use Rattle.sqlite_schema.specs.declared.schema.Column.{Column}
use Rattle.sqlite_schema.specs.declared.command.Command.TheVariants as command
use Rattle.sqlite_resolve.specs.declared.compiled.Compiled.{Compiled}
use Rattle.sqlite_resolve.specs.declared.error.CompileError.{CompileError}
use Rattle.sqlite_resolve.specs.declared.error.CompileError.TheVariants.{NoSuchColumn, Mismatch}
use Rattle.sqlite_resolve.specs.Lowering.{max_budget}
use Rattle.sqlite_resolve.specs.Scope.{Name}
use Rattle.sqlite_resolve.specs.Compile.{compiled}
use Rattle.sqlite_schema.specs.declared.program.Program.{Program}
use Rattle.sqlite.specs.Effect.{Database, RefusesQuery}
use Rattle.sqlite.specs.Listing.{understood, reads_listing, misses_table}
use Rattle.sqlite_trees.specs.declared.error.StoreError.TheVariants.{OutOfMemory, Io, Corrupt, Full, Broken, Unstorable}
use Rattle.sqlite.specs.declared.error.Error.TheVariants.{SqlInputError}
use Rattle.sqlite.specs.State.{State, IsUnchanged, Shown, Fails, FailsToQuery, IsNotRun}
use Rattle.sqlite.proofs.Callers.{IsPlain, command_of, reads_as}
use Rattle.cov_sql.specs.Tables.{rows_of, places_in}
use Rattle.cov_sql.specs.Told.{IsAbsence}
use Rattle.cov_sql.specs.Shown.{HasNamed}
use Rattle.cov_sql.proofs.Selects.{AreFound, IsLacking, Affords, Spends}
use Rattle.cov_sql.proofs.Texts.{IsPlainText, made, select_is, no_column_is}
use Rattle.cov_sql.proofs.Found.{AreOrdinary, found_at, splits}
use Rattle.cov_sql.proofs.Queried.{query, answer_rows}

abbrev pub Reading : Type 0
Reading = Result Compiled CompileError

pub understood_as : (schema : Schema) (text : List ℕ) (r : Reading) → compiled schema text ≡ r → misses_table r ≡ false → understood schema text ≡ r
unfolding understood
understood_as schema text r is h = rw (is, h) refl

affords : (t : Table) (ns : List Name) (ps : List (ℕ × Column)) (budget : ℕ) → AreFound t ns ps → Spends ns budget → Affords ps budget
affords t [] [] budget found h = tt
affords t [] (p ∷ ps) budget found h = absurd found
affords t (n ∷ ns) [] budget found h = absurd found
affords t (n ∷ ns) (p ∷ ps) budget found h = (h.0, affords t ns ps _ found.1 h.1)

module _ (text : List ℕ) (name : Name) (names : List Name) (plain : IsPlainText text name names) (ordinary : AreOrdinary names) (cheap : Spends names max_budget) (schema : Schema) (has : HasNamed schema name) where
  -- the text is a query over the table, or it is refused
  pub data Verdict : Type 0 where
    no_column : (at : ℕ) → table_named schema name ≡ Some at → (t : Table) → slice_get schema.tables at ≡ Some t → places_in t names ≡ None → understood schema text ≡ Err NoSuchColumn → Verdict
    mistyped : (at : ℕ) → table_named schema name ≡ Some at → (t : Table) → slice_get schema.tables at ≡ Some t → understood schema text ≡ Err Mismatch → Verdict
    reads : (at : ℕ) → (table_named schema name ≡ Some at) → (t : Table) → (slice_get schema.tables at ≡ Some t) → (ps : List (ℕ × Column)) → (places_in t names ≡ Some (map (λ p. place_of t p.0) ps))
        → (c : Compiled) → understood schema text ≡ Ok c → c.returning ≡ None → c.formats ≡ [] → c.command ≡ command.Select (record { lets = []; body = query t ps }) (map (λ p. p.1.name) ps)
        → reads_listing schema text ≡ false → Verdict

  on_columns : (at : ℕ) (named : table_named schema name ≡ Some at) (t : Table) (is : slice_get schema.tables at ≡ Some t) → Verdict
  on_columns at named t is = by (splits t names ordinary)
    where
      by : ((ps : List (ℕ × Column)) × AreFound t names ps × (places_in t names ≡ Some (map (λ p. place_of t p.0) ps))) ⊎ (IsLacking t names × (places_in t names ≡ None)) → Verdict
      by (inr lacks) = no_column at named t is lacks.1 (understood_as schema text _ (no_column_is schema text name names plain at named t is lacks.0 cheap) refl)
      by (inl all) =
          let enough = affords t names all.0 max_budget all.1 cheap in
          typed all.0 all.2 (accepts_program schema [] (query t all.0) []) (select_is schema text name names plain at named t is all.0 all.1 enough)
        where
          typed : (ps : List (ℕ × Column)) → places_in t names ≡ Some (map (λ p. place_of t p.0) ps) → (b : Bool)
              → compiled schema text ≡ (if b then Ok (made schema text name names plain (command.Select (record { lets = []; body = query t ps }) (map (λ p. p.1.name) ps))) else Err Mismatch) → Verdict
          typed ps places true h = reads at named t is ps places _ (understood_as schema text _ h refl) refl refl refl (ap misses_table h)
          typed ps places false h = mistyped at named t is (understood_as schema text _ h refl)

  pub verdict : Verdict
  verdict = let t = found_at _ schema.tables has.0 has.1 in on_columns has.0 has.1 t.0 t.1

-- a text that is no statement shows nothing
pub never : {A : Type 0} (schema : Schema) (text : List ℕ) (e : CompileError) (c : Compiled) → understood schema text ≡ Err e → understood schema text ≡ Ok c → A
never schema text e c refused found = absurd (let both : ◌≡◌ {A = Reading} (Err e) (Ok c) = sym refused ∙ found in cc)

module _ (text : List ℕ) (name : Name) (names : List Name) (plain : IsPlainText text name names) (ordinary : AreOrdinary names) (cheap : Spends names max_budget) (old new : State) (has : HasNamed old.now.schema name) where
  abbrev Gives : List Row → Type 0
  Gives rows = ((all : List Row) × (rows_of name names old.now ≡ Some all) × IsPermutation all rows) × IsUnchanged old new

  -- the rows of the table are shown, in some order, and nothing changes
  pub gives_rows : (rows : List Row) → Shown text [] old new rows → Gives rows
  unfolding Shown
  gives_rows rows h = by (verdict text name names plain ordinary cheap old.now.schema has)
    where
      by : Verdict text name names plain ordinary cheap old.now.schema has → Gives rows
      by (no_column at named t is none refused) = never old.now.schema text _ h.0 refused h.1.is
      by (mistyped at named t is refused) = never old.now.schema text _ h.0 refused h.1.is
      by (reads at named t is ps places c found returning formats command listed) =
          let same : h.0 ≡ c = (let both : ◌≡◌ {A = Reading} (Ok h.0) (Ok c) = sym h.1.is ∙ found in cc) in
          let bare : IsPlain (understood old.now.schema text) = rw found (returning, formats) in
          let it = reads_as text [] old new old.now.schema refl _ (ap command_of found ∙ command) bare listed rows h in
          let unchanged : IsUnchanged old new = (rw (same, returning) at h.2).3 in
          ((map (λ r. map (column r) (map (λ p. place_of t p.0) ps)) (old.now.trees t.tree), rw (named, is, places) refl, answer_rows t ps old.now.trees rows it.answer), unchanged)

wrong : (e fault : CompileError) → IsAbsence e → SqlInputError e ≡ SqlInputError fault → ◌≡◌ {A = Reading} (Err fault) (Err Mismatch) → ⊥
wrong e fault (inl which) one two = cc
wrong e fault (inr which) one two = cc

refusal : (limit : Option ℕ) (db : Database) (p : Program) (params : Row) (e : CompileError) → ¬ RefusesQuery limit db p params (SqlInputError e)
refusal limit db p params e (inl h) = let one = h.0 in cc
refusal limit db p params e (inr (inl h)) = let one = h.0 in cc
refusal limit db p params e (inr (inr h)) = let one = h.0 in cc

-- a fault of the store is no fault of the text
pub no_fault : {A : Type 0} (old new : State) (e : CompileError) → Fails old new ⊥ (SqlInputError e) → A
no_fault old new e (OutOfMemory, h, cause, undone, told) = absurd (let same = h in cc)
no_fault old new e (Io, h, cause, undone, told) = absurd (let same = h in cc)
no_fault old new e (Corrupt, h, cause, undone, told) = absurd (let same = h in cc)
no_fault old new e (Full, h, cause, undone, told) = absurd (let same = h in cc)
no_fault old new e (Broken, h, cause, undone, told) = absurd (let same = h in cc)
no_fault old new e (Unstorable, h, cause, undone, told) = absurd (let same = h in cc)

module _ (text : List ℕ) (name : Name) (names : List Name) (plain : IsPlainText text name names) (ordinary : AreOrdinary names) (cheap : Spends names max_budget) (old new : State) (has : HasNamed old.now.schema name) where
  -- the text is refused so only where the table is missing
  pub misses : (e : CompileError) → IsAbsence e → FailsToQuery text [] old new (SqlInputError e) → rows_of name names old.now ≡ None
  unfolding FailsToQuery IsNotRun
  misses e which h = by (verdict text name names plain ordinary cheap old.now.schema has) h
    where
      by : Verdict text name names plain ordinary cheap old.now.schema has → FailsToQuery text [] old new (SqlInputError e) → rows_of name names old.now ≡ None
      by (no_column at named t is none refused) f = rw (named, is, none) refl
      by (mistyped at named t is refused) (inl (inl (inl (fault, other, one), unchanged))) = absurd (wrong e fault which one (sym other ∙ refused))
      by (mistyped at named t is refused) (inl (inl (inr (c, other, more), unchanged))) = never old.now.schema text _ c refused other
      by (mistyped at named t is refused) (inl (inr fault)) = no_fault old new e fault
      by (mistyped at named t is refused) (inr (c, it, more)) = never old.now.schema text _ c refused it.is
      by (reads at named t is ps places c found returning formats command listed) (inl (inl (inl (fault, other, one), unchanged))) = never old.now.schema text fault c other found
      by (reads at named t is ps places c found returning formats command listed) (inl (inl (inr (c', other, inl many), unchanged))) = absurd (let two = many.1 in cc)
      by (reads at named t is ps places c found returning formats command listed) (inl (inl (inr (c', other, inr (inl count)), unchanged))) = absurd (let two = count.1 in cc)
      by (reads at named t is ps places c found returning formats command listed) (inl (inl (inr (c', other, inr (inr time)), unchanged))) = absurd (let two = time.1 in cc)
      by (reads at named t is ps places c found returning formats command listed) (inl (inr fault)) = no_fault old new e fault
      by (reads at named t is ps places c found returning formats command listed) (inr (c', it, fails)) =
          let same : c' ≡ c = (let both : ◌≡◌ {A = Reading} (Ok c') (Ok c) = sym it.is ∙ found in cc) in
          let now = rw (same, returning) at fails in
          absurd (refusal old.step_limit now.0 (record { lets = []; body = query t ps }) _ e (rw command at now.2))
