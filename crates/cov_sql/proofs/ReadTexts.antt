-- The statements that read the tables of data files.
use Rattle.std.proofs.Common.{◌≡◌, inl, inr, ℕ, List, [], codes, refl, sym, ap, ◌∙◌, false, not, Option, None, Some, is_some, Err, Ok, Result}
use Rattle.std.specs.List.Sorted.{IsPermutation}
use Rattle.sqlite_value.specs.Order.{Row}
use Rattle.sqlite_trees.specs.Tree.{Trees}
use Rattle.sqlite_schema.specs.Names.{table_named}
use Rattle.sqlite_schema.specs.declared.schema.Schema.{Schema}
use Rattle.sqlite_resolve.specs.declared.compiled.Compiled.{Compiled}
use Rattle.sqlite_resolve.specs.declared.error.CompileError.{CompileError}
use Rattle.sqlite_resolve.specs.Lowering.{max_budget}
use Rattle.sqlite_tied.specs.Compute.{everything}
use Rattle.sqlite.specs.declared.error.Error.{Error}
use Rattle.sqlite.specs.declared.error.Error.TheVariants.{SqlInputError}
use Rattle.sqlite.specs.State.{State, HasCleanDisk, IsUnchanged, IsNotRun, Shown, FailsToQuery, Survives, CommitsShowing}
use Rattle.sqlite.specs.Listing.{understood}
use Rattle.sqlite.proofs.Callers.{IsPlain, never_commits}
use Rattle.sqlite.proofs.StateLemmas.{survives_weaker}
use Rattle.cov_sql.specs.Tables.{Shape, rows_in, coverage_schema, meta, file, context, line_bits, arc, tracer, hits}
use Rattle.cov_sql.proofs.Texts.{IsPlainText}
use Rattle.cov_sql.proofs.Selects.{Spends}
use Rattle.cov_sql.proofs.Found.{AreOrdinary}
use Rattle.cov_sql.proofs.Shows.{Verdict, no_column, mistyped, reads, verdict, never, no_fault, gives_rows, misses, Reading}
use Rattle.cov_sql.specs.declared.statements.StatementError.{StatementError}
use Rattle.cov_sql.specs.Told.{Lists, EndsAs, Reads, Answers, IsAbsence}
use Rattle.cov_sql.specs.Shown.{IsAsked, NeverReturns, StopsAs, ShowsTable, IsMissing, HasNamed, AsksFor, CommitsAsking}

-- the text reads the table, whatever else a base has
pub record IsReading (text : List ℕ) (t : Shape) : Type 0 where
  pub plain : IsPlainText text t.name t.columns
  pub ordinary : AreOrdinary t.columns
  pub cheap : Spends t.columns max_budget

module _ (text : List ℕ) (t : Shape) (is : IsReading text t) (old new : State) (has : HasNamed old.now.schema t.name) where
  gives : (rows : List Row) → Shown text [] old new rows → ((all : List Row) × (rows_in t old.now ≡ Some all) × IsPermutation all rows) × IsUnchanged old new
  gives = gives_rows text t.name t.columns is.plain is.ordinary is.cheap old new has

  is_missing : (e : CompileError) → IsAbsence e → FailsToQuery text [] old new (SqlInputError e) → rows_in t old.now ≡ None
  is_missing = misses text t.name t.columns is.plain is.ordinary is.cheap old new has

  commits_nothing : (db : Trees) → ¬ CommitsShowing text [] old db
  unfolding CommitsShowing
  commits_nothing db may = by (verdict text t.name t.columns is.plain is.ordinary is.cheap old.now.schema has)
    where
      by : Verdict text t.name t.columns is.plain is.ordinary is.cheap old.now.schema has → ⊥
      by (no_column at named u there none refused) = never old.now.schema text _ may.0 refused may.1.is
      by (mistyped at named u there refused) = never old.now.schema text _ may.0 refused may.1.is
      by (reads at named u there ps places c found returning formats command listed) = let plain : IsPlain (understood old.now.schema text) = rw found (returning, formats) in never_commits text [] old db plain may

  -- a refused query changes nothing, or the store failed and a transaction was undone
  refused_ends : (e : Error) → FailsToQuery text [] old new e → EndsAs old new
  unfolding FailsToQuery IsNotRun
  refused_ends e h = by (verdict text t.name t.columns is.plain is.ordinary is.cheap old.now.schema has) h
    where
      by : Verdict text t.name t.columns is.plain is.ordinary is.cheap old.now.schema has → FailsToQuery text [] old new e → EndsAs old new
      by v (inl (inl unrun)) = inl unrun.1
      by v (inl (inr failed)) = inr failed.3
      by (no_column at named u there none refused) (inr f) = never old.now.schema text _ f.0 refused f.1.is
      by (mistyped at named u there refused) (inr f) = never old.now.schema text _ f.0 refused f.1.is
      by (reads at named u there ps places c found returning formats command listed) (inr f) =
          let same : f.0 ≡ c = (let both : ◌≡◌ {A = Reading} (Ok f.0) (Ok c) = sym f.1.is ∙ found in cc) in
          inl (rw (same, returning) at f.2).3

  -- and one that names what is missing changes nothing
  unfound : (e : CompileError) → FailsToQuery text [] old new (SqlInputError e) → IsUnchanged old new
  unfolding FailsToQuery IsNotRun
  unfound e h = by (verdict text t.name t.columns is.plain is.ordinary is.cheap old.now.schema has) h
    where
      by : Verdict text t.name t.columns is.plain is.ordinary is.cheap old.now.schema has → FailsToQuery text [] old new (SqlInputError e) → IsUnchanged old new
      by v (inl (inl unrun)) = unrun.1
      by v (inl (inr fault)) = no_fault old new e fault
      by (no_column at named u there none refused) (inr f) = never old.now.schema text _ f.0 refused f.1.is
      by (mistyped at named u there refused) (inr f) = never old.now.schema text _ f.0 refused f.1.is
      by (reads at named u there ps places c found returning formats command listed) (inr f) =
          let same : f.0 ≡ c = (let both : ◌≡◌ {A = Reading} (Ok f.0) (Ok c) = sym f.1.is ∙ found in cc) in
          (rw (same, returning) at f.2).3

  ends : IsAsked text old new → EndsAs old new
  ends (inl shown) = inl (gives shown.0 shown.1).1
  ends (inr (inl failed)) = refused_ends failed.0 failed.1
  ends (inr (inr same)) = inl same

  never_returns : NeverReturns text old
  never_returns d known = by (verdict text t.name t.columns is.plain is.ordinary is.cheap old.now.schema has)
    where
      by : Verdict text t.name t.columns is.plain is.ordinary is.cheap old.now.schema has → d.returning ≡ None
      by (no_column at named u there none refused) = never old.now.schema text _ d refused known
      by (mistyped at named u there refused) = never old.now.schema text _ d refused known
      by (reads at named u there ps places c found returning formats command listed) =
          let same : d ≡ c = (let both : ◌≡◌ {A = Reading} (Ok d) (Ok c) = sym known ∙ found in cc) in
          ap (λ (x : Compiled). x.returning) same ∙ returning

  -- a statement that shows such a text as cells tells its table
  asked : (r : Result Lists StatementError) → ShowsTable text old new r → Answers t old new r
  asked (Ok lists) h =
      let all = gives h.shown.0 h.shown.1 in
      record { rows = (all.0.0, h.shown.0, all.0.1, all.0.2, h.shown.2); missing = λ no. absurd cc; kept = all.1; unfound = λ no. absurd cc; ends = inl all.1 }
  asked (Err e) h = record {
    rows = tt;
    missing = λ no. let m = h.missing no in is_missing m.0 m.1 m.2;
    kept = tt;
    unfound = λ no. let m = h.missing no in unfound m.0 m.2;
    ends = ends h.asked;
  }

-- and so does one that answers nothing in place of a table that isn't there
lacked : (t : Shape) (old new : State) (r : Result Lists StatementError) → table_named old.now.schema t.name ≡ None → IsMissing old new r → Answers t old new r
lacked t old new (Ok lists) none h = absurd (let no = h.nothing in cc)
lacked t old new (Err e) none h = record { rows = tt; missing = λ no. rw none refl; kept = tt; unfound = h.unfound; ends = h.ends }

pub tells : (text : List ℕ) (t : Shape) → IsReading text t → (old new : State) (r : Result Lists StatementError) → (HasCleanDisk new → AsksFor t.name text old new r) → Reads t old new r
tells text t it old new r told clean = by (told clean)
  where
    by : AsksFor t.name text old new r → Answers t old new r
    by (inl (has, h)) = asked text t it old new has r (h (never_returns text t it old new has))
    by (inr (none, h)) = lacked t old new r none h

-- and commits nothing
pub leaves : (text : List ℕ) (t : Shape) → IsReading text t → (old new : State) → Survives old new (CommitsAsking t.name text old) → Survives old new (λ _. ⊥)
leaves text t it old new s = survives_weaker old new (CommitsAsking t.name text old) (λ _. ⊥) (λ _ db may. commits_nothing text t it old new may.0 db may.1) s

-- a text whose rows ended early was asked
pub asked_as : (text : List ℕ) (old new : State) (why : Option Error) → StopsAs text old new why → IsAsked text old new
asked_as text old new (Some e) h = inr (inl (e, h))
asked_as text old new None h = inr (inr h)

-- a table was found by its name
pub there_by : (schema : Schema) (name : List ℕ) (o : Option ℕ) → o ≡ table_named schema name → not (is_some o) ≡ false → HasNamed schema name
there_by schema name None same is = absurd cc
there_by schema name (Some at) same is = (at, sym same)

-- a text that was only compiled
pub unprepared : (text : List ℕ) (old new : State) (e : Error) → ((params : Row) → IsNotRun old new text params e) → EndsAs old new
unfolding IsNotRun
unprepared text old new e h = by (h [])
  where
    by : IsNotRun old new text [] e → EndsAs old new
    by (inl unrun) = inl unrun.1
    by (inr failed) = inr failed.3

pub misread : (text : List ℕ) (old new : State) (e : CompileError) → ((params : Row) → IsNotRun old new text params (SqlInputError e)) → IsUnchanged old new
unfolding IsNotRun
misread text old new e h = by (h [])
  where
    by : IsNotRun old new text [] (SqlInputError e) → IsUnchanged old new
    by (inl unrun) = unrun.1
    by (inr failed) = no_fault old new e failed

pub reads_coverage_schema : IsReading (codes "SELECT version FROM coverage_schema") coverage_schema
unfolding everything
reads_coverage_schema = record {
  plain = record {
    parsed = _;
    select = _;
    reads = refl;
    is = refl;
    no_names = refl;
    no_formats = refl;
    plain = record {
      core = record {
        source = _;
        from = refl;
        table = refl;
        alias = refl;
        on = refl;
        using = refl;
        is_left = refl;
        distinct = refl;
        filter = refl;
        group = refl;
        having = refl;
        shown = ((_, _, refl, refl), tt);
      };
      with_none = refl;
      others = refl;
      order = refl;
      limit = refl;
      offset = refl;
    };
  };
  ordinary = (refl, tt);
  cheap = (refl, tt);
}

pub reads_meta : IsReading (codes "SELECT key, value FROM meta") meta
unfolding everything
reads_meta = record {
  plain = record {
    parsed = _;
    select = _;
    reads = refl;
    is = refl;
    no_names = refl;
    no_formats = refl;
    plain = record {
      core = record {
        source = _;
        from = refl;
        table = refl;
        alias = refl;
        on = refl;
        using = refl;
        is_left = refl;
        distinct = refl;
        filter = refl;
        group = refl;
        having = refl;
        shown = ((_, _, refl, refl), ((_, _, refl, refl), tt));
      };
      with_none = refl;
      others = refl;
      order = refl;
      limit = refl;
      offset = refl;
    };
  };
  ordinary = (refl, (refl, tt));
  cheap = (refl, (refl, tt));
}

pub reads_file : IsReading (codes "SELECT id, path FROM file") file
unfolding everything
reads_file = record {
  plain = record {
    parsed = _;
    select = _;
    reads = refl;
    is = refl;
    no_names = refl;
    no_formats = refl;
    plain = record {
      core = record {
        source = _;
        from = refl;
        table = refl;
        alias = refl;
        on = refl;
        using = refl;
        is_left = refl;
        distinct = refl;
        filter = refl;
        group = refl;
        having = refl;
        shown = ((_, _, refl, refl), ((_, _, refl, refl), tt));
      };
      with_none = refl;
      others = refl;
      order = refl;
      limit = refl;
      offset = refl;
    };
  };
  ordinary = (refl, (refl, tt));
  cheap = (refl, (refl, tt));
}

pub reads_context : IsReading (codes "SELECT id, context FROM context") context
unfolding everything
reads_context = record {
  plain = record {
    parsed = _;
    select = _;
    reads = refl;
    is = refl;
    no_names = refl;
    no_formats = refl;
    plain = record {
      core = record {
        source = _;
        from = refl;
        table = refl;
        alias = refl;
        on = refl;
        using = refl;
        is_left = refl;
        distinct = refl;
        filter = refl;
        group = refl;
        having = refl;
        shown = ((_, _, refl, refl), ((_, _, refl, refl), tt));
      };
      with_none = refl;
      others = refl;
      order = refl;
      limit = refl;
      offset = refl;
    };
  };
  ordinary = (refl, (refl, tt));
  cheap = (refl, (refl, tt));
}

pub reads_line_bits : IsReading (codes "SELECT file_id, context_id, numbits FROM line_bits") line_bits
unfolding everything
reads_line_bits = record {
  plain = record {
    parsed = _;
    select = _;
    reads = refl;
    is = refl;
    no_names = refl;
    no_formats = refl;
    plain = record {
      core = record {
        source = _;
        from = refl;
        table = refl;
        alias = refl;
        on = refl;
        using = refl;
        is_left = refl;
        distinct = refl;
        filter = refl;
        group = refl;
        having = refl;
        shown = ((_, _, refl, refl), ((_, _, refl, refl), ((_, _, refl, refl), tt)));
      };
      with_none = refl;
      others = refl;
      order = refl;
      limit = refl;
      offset = refl;
    };
  };
  ordinary = (refl, (refl, (refl, tt)));
  cheap = (refl, (refl, (refl, tt)));
}

pub reads_arc : IsReading (codes "SELECT file_id, context_id, fromno, tono FROM arc") arc
unfolding everything
reads_arc = record {
  plain = record {
    parsed = _;
    select = _;
    reads = refl;
    is = refl;
    no_names = refl;
    no_formats = refl;
    plain = record {
      core = record {
        source = _;
        from = refl;
        table = refl;
        alias = refl;
        on = refl;
        using = refl;
        is_left = refl;
        distinct = refl;
        filter = refl;
        group = refl;
        having = refl;
        shown = ((_, _, refl, refl), ((_, _, refl, refl), ((_, _, refl, refl), ((_, _, refl, refl), tt))));
      };
      with_none = refl;
      others = refl;
      order = refl;
      limit = refl;
      offset = refl;
    };
  };
  ordinary = (refl, (refl, (refl, (refl, tt))));
  cheap = (refl, (refl, (refl, (refl, tt))));
}

pub reads_tracer : IsReading (codes "SELECT file_id, tracer FROM tracer") tracer
unfolding everything
reads_tracer = record {
  plain = record {
    parsed = _;
    select = _;
    reads = refl;
    is = refl;
    no_names = refl;
    no_formats = refl;
    plain = record {
      core = record {
        source = _;
        from = refl;
        table = refl;
        alias = refl;
        on = refl;
        using = refl;
        is_left = refl;
        distinct = refl;
        filter = refl;
        group = refl;
        having = refl;
        shown = ((_, _, refl, refl), ((_, _, refl, refl), tt));
      };
      with_none = refl;
      others = refl;
      order = refl;
      limit = refl;
      offset = refl;
    };
  };
  ordinary = (refl, (refl, tt));
  cheap = (refl, (refl, tt));
}

pub reads_hits : IsReading (codes "SELECT file_id, context_id, fromno, tono, count FROM hits") hits
unfolding everything
reads_hits = record {
  plain = record {
    parsed = _;
    select = _;
    reads = refl;
    is = refl;
    no_names = refl;
    no_formats = refl;
    plain = record {
      core = record {
        source = _;
        from = refl;
        table = refl;
        alias = refl;
        on = refl;
        using = refl;
        is_left = refl;
        distinct = refl;
        filter = refl;
        group = refl;
        having = refl;
        shown = ((_, _, refl, refl), ((_, _, refl, refl), ((_, _, refl, refl), ((_, _, refl, refl), ((_, _, refl, refl), tt)))));
      };
      with_none = refl;
      others = refl;
      order = refl;
      limit = refl;
      offset = refl;
    };
  };
  ordinary = (refl, (refl, (refl, (refl, (refl, tt)))));
  cheap = (refl, (refl, (refl, (refl, (refl, tt)))));
}
