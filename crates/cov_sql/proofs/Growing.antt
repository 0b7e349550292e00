-- What CREATE TABLE makes, whatever else the base has, and that it names nothing as absent.
use Rattle.std.proofs.Common.{◌≡◌, ◌≢◌, ◌⊎◌, inl, inr, ℕ, ◌+◌, ◌<◌, ◌≤◌, max, arith, List, [], ◌∷◌, ◌++◌, append_assoc, Bool, true, false, Option, Some, None, Ok, Err, Result, refl, sym, ap, subst, ◌∙◌}
use Rattle.std.specs.Bool.{MatchBool}
use Rattle.std.specs.List.{AllByRecursion, fold}
use Rattle.std.proofs.Math.Nat.{le-max_left, le-max_right}
use Rattle.sqlite_tied.specs.Compute.{everything}
use Rattle.sqlite_schema.specs.Names.{table_named}
use Rattle.sqlite_schema.specs.declared.schema.Schema.{Schema}
use Rattle.sqlite_schema.specs.declared.schema.Table.{Table}
use Rattle.sqlite_schema.specs.declared.command.Command.TheVariants as command
use Rattle.sqlite_catalog.specs.declared.error.Refusal.TheVariants as why
use Rattle.sqlite_catalog.specs.Calls.{CreatesTable, RefusesTable}
use Rattle.sqlite_catalog.specs.Change.{next_tree, past_views}
use Rattle.sqlite_schema.specs.declared.schema.Index.{Index}
use Rattle.sqlite_resolve.specs.declared.compiled.Compiled.{Compiled}
use Rattle.sqlite_resolve.specs.declared.error.CompileError.{CompileError}
use Rattle.sqlite_resolve.specs.Scope.{Name}
use Rattle.sqlite.specs.Compile.{table_defined_by}
use Rattle.sqlite.specs.Does.{Tally, MakesTable, Does, sequence_text, lacks_sequence}
use Rattle.sqlite.specs.Rows.{Gives}
use Rattle.sqlite.specs.Effect.{Database, RefusesToAlter}
use Rattle.sqlite.specs.Listing.{understood}
use Rattle.sqlite.specs.State.{State, Executes, Writes, Fails, IsMisplaced, RunsCommand, mode_of}
use Rattle.sqlite.specs.declared.error.Error.{Error}
use Rattle.sqlite.specs.declared.error.Error.TheVariants.{SqlInputError}
use Rattle.sqlite_trees.specs.declared.error.StoreError.TheVariants.{OutOfMemory, Io, Corrupt, Full, Broken, Unstorable}
use Rattle.sqlite.proofs.Callers.{IsPlain, command_of, runs_as, statement_of}
use Rattle.cov_sql.specs.Written.{IsMade, WasAbsent}
use Rattle.cov_sql.specs.Tables.{Shape}
use Rattle.cov_sql.proofs.Shows.{understood_as, never}
use Rattle.cov_sql.proofs.Made.{each_left, each_mapped}
use Rattle.cov_sql.proofs.Creates.{IsCreate, IsFree, IsTaken, made, create_is, verdict, never_twice, never_taken, went, same_value}

-- ---- trees that are above those of all tables

module _ {X : Type 0} (f : X → ℕ) where
  abbrev top : ℕ → List X → ℕ
  top = fold (λ n x. max n (f x + 1))

  above_base : (base : ℕ) (xs : List X) → base ≤ top base xs
  above_base base [] = omega arith
  above_base base (x ∷ xs) = let one = le-max_left base (f x + 1) in let two = above_base (max base (f x + 1)) xs in omega (arith, one, two)

  above_each : (base : ℕ) (xs : List X) → AllByRecursion (λ x. f x < top base xs) xs
  above_each base [] = tt
  above_each base (x ∷ xs) = (let one = le-max_right base (f x + 1) in let two = above_base (max base (f x + 1)) xs in omega (arith, one, two), above_each (max base (f x + 1)) xs)

above_all : (schema : Schema) → AllByRecursion (λ u. u.tree < next_tree schema) schema.tables
above_all schema =
    let tables = top (λ (t : Table). t.tree) (past_views schema) schema.tables in
    each_mapped (λ u. u.tree < tables) (λ u. u.tree < next_tree schema) (λ u less. let more = above_base (λ (i : Index). i.tree) tables schema.indexes in omega (arith, less, more)) schema.tables
    (above_each (λ (t : Table). t.tree) (past_views schema) schema.tables)

each_last : {X : Type 0} (P : X → Type 0) (xs : List X) (x : X) → AllByRecursion P (xs ++ x ∷ []) → P x
each_last P [] x all = all.0
each_last P (y ∷ ys) x all = each_last P ys x all.1

each_both : {X : Type 0} (P Q R : X → Type 0) → ((x : X) → P x → Q x → R x) → (xs : List X) → AllByRecursion P xs → AllByRecursion Q xs → AllByRecursion R xs
each_both P Q R f [] one two = tt
each_both P Q R f (x ∷ xs) one two = (f x one.0 two.0, each_both P Q R f xs one.1 two.1)

-- a text that is defined so is refused for another cause than what it names
no_alter : (text : List ℕ) (table : Table) → table_defined_by text ≡ Ok table → (schema : Schema) (e : CompileError) → RefusesToAlter (RefusesTable schema text) (SqlInputError e) → ⊥
no_alter text table defined schema e (why.Invalid f, refused, is) = (let both : ◌≡◌ {A = Result Table CompileError} (Ok table) (Err f) = sym defined ∙ refused in cc)
no_alter text table defined schema e (why.NameTaken, refused, is) = cc
no_alter text table defined schema e (why.BadName, refused, is) = cc
no_alter text table defined schema e (why.BadKey, refused, is) = cc
no_alter text table defined schema e (why.BadText, refused, is) = cc
no_alter text table defined schema e (why.TooBig, refused, is) = cc
no_alter text table defined schema e (why.Violates rule, refused, is) = cc

same_some : (x y : Error) → Some x ≡ Some y → x ≡ y
same_some x y is = cc

same_stop : {A : Type 0} (x y : Option Error) → ◌≡◌ {A = Result A (Option Error)} (Err x) (Err y) → x ≡ y
same_stop x y is = cc

no_making : (text : List ℕ) (table : Table) → table_defined_by text ≡ Ok table → (db : Database) (e : CompileError) (stop : Option Error) → MakesTable text db (Err stop) → stop ≡ Some (SqlInputError e) → ⊥
no_making text table defined db e None m is = cc
no_making text table defined db e (Some x) (inl (bad, named)) is = absurd (let one = same_some x (SqlInputError e) is in cc)
no_making text table defined db e (Some x) (inr m) is = no_alter text table defined db.schema e (subst (RefusesToAlter (RefusesTable db.schema text)) (same_some x (SqlInputError e) is) m)

-- the table of rowid counts refers to none
sequence_defined : (table : Table) × (table_defined_by sequence_text ≡ Ok table) × (table.references ≡ [])
unfolding everything
sequence_defined = (_, refl, refl)

no_sequence : (b : Bool) (db : Database) (e : CompileError) (stop : Option Error) → MatchBool b (MakesTable sequence_text db (Err stop)) (Gives db (Err stop)) → stop ≡ Some (SqlInputError e) → ⊥
no_sequence true db e stop h is = no_making sequence_text sequence_defined.0 sequence_defined.1 db e stop h is
no_sequence false db e stop h is = cc

-- ---- each text that makes a table

pub faultless : {U : Type 0} (old new : State) (e : CompileError) → Fails old new U (SqlInputError e) → ⊥
faultless old new e (OutOfMemory, h, cause, undone, told) = cc
faultless old new e (Io, h, cause, undone, told) = cc
faultless old new e (Corrupt, h, cause, undone, told) = cc
faultless old new e (Full, h, cause, undone, told) = cc
faultless old new e (Broken, h, cause, undone, told) = cc
faultless old new e (Unstorable, h, cause, undone, told) = cc

placed : (s : State) (e : CompileError) → IsMisplaced s command.CreateTable (SqlInputError e) → ⊥
placed s e (inl (is, more)) = cc
placed s e (inr (is, name, which, unnamed)) = cc

-- ---- the table, and that of rowid counts where the database adds it

module _ (t : Shape) (table : ℕ → Table) (moves : (tree : ℕ) → record (table 0) { tree = tree } ≡ table tree) where
  in_tree : (k : ℕ) → (table k).tree ≡ k
  in_tree k = ap (λ (u : Table). u.tree) (sym (moves k))

  -- it alone
  made_first : (old mid : Database) (text : List ℕ) → table_named old.schema t.name ≡ None → table_defined_by text ≡ Ok (table 0) → CreatesTable old.schema text old.trees mid.schema mid.trees
      → (m : IsMade t table old mid) × (m.more ≡ [])
  made_first old mid text free defined h =
      let k = next_tree old.schema in
      let same : h.table ≡ table 0 = same_value {E = CompileError} (sym h.defined ∙ defined) in
      let is : mid.schema.tables ≡ old.schema.tables ++ table k ∷ [] = ap (λ (s : Schema). s.tables) h.is ∙ ap (λ (u : Table). old.schema.tables ++ record u { tree = k } ∷ []) same ∙ ap (λ u. old.schema.tables ++ u ∷ []) (moves k) in (
        record {
          free = free;
          tree = k;
          more = [];
          tables = is;
          bare = tt;
          apart = each_mapped (λ u. u.tree < k) (λ u. AllByRecursion (λ v. v.tree ≢ u.tree) (table k ∷ [])) (λ u less. ((λ e. let at = in_tree k in absurd (omega (arith, less, e, at))), tt)) old.schema.tables (above_all old.schema);
          alone = tt;
          empty = h.empty;
          others = h.others;
        },
        refl,
      )

  -- and then that of counts
  made_both : (old mid new : Database) (m : IsMade t table old mid) → m.more ≡ [] → CreatesTable mid.schema sequence_text mid.trees new.schema new.trees → IsMade t table old new
  made_both old mid new m none h =
      let k = m.tree in
      let j = next_tree mid.schema in
      let counts : Table = record h.table { tree = j } in
      let was : mid.schema.tables ≡ old.schema.tables ++ table k ∷ [] = m.tables ∙ ap (λ us. old.schema.tables ++ table k ∷ us) none in
      let below : AllByRecursion (λ u. u.tree < j) (old.schema.tables ++ table k ∷ []) = subst (AllByRecursion (λ (u : Table). u.tree < j)) was (above_all mid.schema) in
      let keeps : AllByRecursion (λ u. new.trees u.tree ≡ mid.trees u.tree) (old.schema.tables ++ table k ∷ []) = subst (AllByRecursion (λ (u : Table). new.trees u.tree ≡ mid.trees u.tree)) was h.others in
      let own : k < j = subst (λ i. i < j) (in_tree k) (each_last (λ (u : Table). u.tree < j) old.schema.tables (table k) below) in
      let same : h.table ≡ sequence_defined.0 = same_value {E = CompileError} (sym h.defined ∙ sequence_defined.1) in
      record {
        free = m.free;
        tree = k;
        more = counts ∷ [];
        tables = ap (λ (s : Schema). s.tables) h.is ∙ ap (λ us. us ++ counts ∷ []) was ∙ append_assoc old.schema.tables (table k ∷ []) (counts ∷ []);
        bare = (ap (λ (u : Table). u.references) same ∙ sequence_defined.2, tt);
        apart = each_both (λ (u : Table). AllByRecursion (λ (v : Table). v.tree ≢ u.tree) (table k ∷ m.more)) (λ (u : Table). u.tree < j) (λ (u : Table). AllByRecursion (λ (v : Table). v.tree ≢ u.tree) (table k ∷ counts ∷ []))
            (λ u one less. (one.0, ((λ e. absurd (omega (arith, less, e))), tt))) old.schema.tables m.apart (each_left (λ (u : Table). u.tree < j) old.schema.tables (table k ∷ []) below);
        alone = ((λ e. absurd (omega (arith, own, e))), tt);
        empty = subst (λ i. new.trees i ≡ mid.trees i) (in_tree k) (each_last (λ (u : Table). new.trees u.tree ≡ mid.trees u.tree) old.schema.tables (table k) keeps) ∙ m.empty;
        others = each_both (λ (u : Table). new.trees u.tree ≡ mid.trees u.tree) (λ (u : Table). mid.trees u.tree ≡ old.trees u.tree) (λ (u : Table). new.trees u.tree ≡ old.trees u.tree) (λ u one two. one ∙ two) old.schema.tables
            (each_left (λ (u : Table). new.trees u.tree ≡ mid.trees u.tree) old.schema.tables (table k ∷ []) keeps) m.others;
      }

  made_then : (b : Bool) (old mid new : Database) (m : IsMade t table old mid) → m.more ≡ [] → MatchBool b (MakesTable sequence_text mid (Ok new)) (Gives mid (Ok new)) → IsMade t table old new
  made_then true old mid new m none h = made_both old mid new m none h
  made_then false old mid new m none h = subst (IsMade t table old) (sym (same_value h)) m

module _ (text : List ℕ) (t : Shape) (table : ℕ → Table) (i : IsCreate text t.name table) (old new : State) where
  abbrev name : Name
  name = t.name

  abbrev schema : Schema
  schema = old.now.schema

  pub makes : (count : ℕ) → Executes text [] old new (Ok count) → IsMade t table old.now new.now
  makes count h = by (verdict schema text name table i)
    where
      by : IsFree schema text name table i ⊎ IsTaken schema text name table i → IsMade t table old.now new.now
      by (inr taken) = absurd (never_twice text name table i [] old new taken count h)
      by (inl free) =
          let read = understood_as schema text _ (create_is schema text name table i free.0 free.1 free.2) refl in
          let bare : IsPlain (understood schema text) = rw read (refl, refl) in
          let w = subst (λ s. Writes old new None command.CreateTable s [] count) (ap (statement_of text) read ∙ i.spans)
          (runs_as text [] old new schema refl command.CreateTable (ap command_of read) bare count h) in
          let all = went w.changed in
          let first = went all.1 in
          let one = made_first t table i.moves old.now first.0 text free.0 i.defines first.1 in
          let now : new.now ≡ all.0 = ap (λ (p : Tally × Database). p.1) (same_value all.2) in
          subst (IsMade t table old.now) (sym now) (made_then t table i.moves (lacks_sequence first.0.schema) old.now first.0 all.0 one.0 one.1 first.2)

  -- what it does where the name is free
  no_refusal : (e : CompileError) → Does old.step_limit (mode_of old) [] old.now text None command.CreateTable (Err (Some (SqlInputError e))) → ⊥
  no_refusal e (inl (stop, inl (before, m, one), two)) = no_making text (table 0) i.defines old.now e before m (sym (same_stop stop before one) ∙ sym (same_stop (Some (SqlInputError e)) stop two))
  no_refusal e (inl (stop, inr (first, m, s), two)) = no_sequence (lacks_sequence first.schema) first e stop s (sym (same_stop (Some (SqlInputError e)) stop two))
  no_refusal e (inr (after, m, is)) = cc

  pub nothing_absent : ¬ WasAbsent text [] old new
  unfolding Rattle.sqlite.specs.State.ExecutesIn Rattle.sqlite.specs.State.IsNotRun
  nothing_absent (e, which, h) = by (verdict schema text name table i)
    where
      found : understood schema text ≡ Ok (made schema text name table i) → Executes text [] old new (Err (SqlInputError e)) → ⊥
      found read (inl (inl (inl (fault, other, one), unchanged))) = never schema text fault _ other read
      found read (inl (inl (inr (c, other, inl many), unchanged))) = (let two = many.1 in cc)
      found read (inl (inl (inr (c, other, inr (inl count)), unchanged))) = (let two = count.1 in cc)
      found read (inl (inl (inr (c, other, inr (inr time)), unchanged))) = (let two = time.1 in cc)
      found read (inl (inr fault)) = faultless old new e fault
      found read (inr (c, it, more)) =
          let same : c ≡ made schema text name table i = (let both : ◌≡◌ {A = Result Compiled CompileError} (Ok c) (Ok (made schema text name table i)) = sym it.is ∙ read in cc) in
          ran (rw same at more)
        where
          ran : RunsCommand old new text (made schema text name table i) [] (Err (SqlInputError e)) → ⊥
          ran (inl (inl misplaced, unchanged)) = placed old e misplaced
          ran (inl (inr (may, does), unchanged)) = no_refusal e (subst (λ t. Does old.step_limit (mode_of old) [] old.now t None command.CreateTable (Err (Some (SqlInputError e)))) i.spans does)
          ran (inr fault) = faultless old new e fault

      by : IsFree schema text name table i ⊎ IsTaken schema text name table i → ⊥
      by (inr taken) = never_taken text name table i [] old new taken (e, which, h)
      by (inl free) = found (understood_as schema text _ (create_is schema text name table i free.0 free.1 free.2) refl) h
