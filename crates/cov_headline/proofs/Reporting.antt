-- What a report promises, in each form.
use Rattle.std.proofs.Common.{◌≡◌, inl, inr, ◌∙◌, ℕ, ◌++◌, Bool, true, false, if◌then◌else◌, sym, ap, subst, List, [], ◌∷◌, map, filter, length, Option, Some, None, Result, Ok, Err}
use Rattle.std.specs.Prelude.{◌||◌, codes}
use Rattle.std.specs.FinMap as finite
use Rattle.std.specs.Str.{bytes_eq}
use Rattle.cov_outside.specs.Files.{Files, with_file}
use Rattle.cov_outside.specs.declared.shelf.ShelfError.{ShelfError}
use Rattle.cov_outside.specs.declared.shelf.ShelfError.TheVariants as shelf_error
use Rattle.cov_contexts.specs.declared.plugins.Plugin.{Ghosts as PluginOf}
use Rattle.cov_analysis.specs.Analyses.{AnalysisView}
use Rattle.cov_config.specs.Settings.{Settings, ReportSettings}
use Rattle.cov_data.specs.DataSet.{DataSet}
use Rattle.cov_data.specs.Rows.{paths_of}
use Rattle.cov_programs.specs.Programs.{give, ask, bind, each}
use Rattle.cov_programs.proofs.Parts.{each-keeps}
use Rattle.cov_programs.proofs.Results.{ok_is, ok_no_err}
use Rattle.cov_run.specs.Reading.{Reading, no_text, long, stuck, no_tree, ill_formed, tree, unread, Reads}
use Rattle.cov_text.specs.Report.{text_bytes}
use Rattle.cov_vault.specs.Contents.{Contents}
use Rattle.cov_vault.specs.declared.vault.Content.TheVariants.{Good}
use Rattle.cov_why.specs.Answers.{Refusal, no_source}
use Rattle.cov_words.specs.Values.{Word}
use Rattle.cov_step.specs.Calls.{Answered, PlainSource, Patterns, checks, puts, makes}
use Rattle.cov_step.specs.Answers.{bytes_of, shelf_refusal, pattern_refusal, last, on, tree_of}
use Rattle.cov_step.specs.Commands.{report}
use Rattle.cov_step.specs.Names.{or_else}
use Rattle.cov_step.specs.Phases.{file, needed, settings, own_name, patterns, always, few, short, source, some_path, is_reported, reported_paths, analysed, Report, reported_in, reported, judged, write_last, put_last}
use Rattle.cov_headline.specs.Kept.{Recorded, AreKept}
use Rattle.cov_headline.specs.Origins.{Origin, data_of, IsOf}
use Rattle.cov_headline.specs.Promises.{IsSet, patterns_of, AreRead, AreMissing, Reported, ReportPromise, with_text, PutPromise}
use Rattle.cov_headline.specs.Reports.{MissingAre}
use Rattle.cov_headline.specs.Told.{Held}
use Rattle.cov_headline.proofs.Going.{Goes, is_quiet, IsQuiet, went, quietly, gave, quiet-settings, quiet-patterns_by, quiet-needed, quiet-source, quiet-reported}
use Rattle.cov_headline.proofs.Missing.{law_of_reports}

-- ---- each source

module _ (p : Patterns) (d : DataSet) (o : Origin) (is : data_of o ≡ d) (of : IsOf d.arcs o) where
  pub missing-all : (sources : List PlainSource) → AreMissing p d o sources
  missing-all [] = tt
  missing-all (s ∷ rest) =
      (subst (λ e. MissingAre p.exclude p.partial s.path s.text s.body d.arcs o (analysed p e s)) is (law_of_reports p.exclude p.partial s.path s.text s.body d.arcs o of), missing-all rest)

module _ {P : Type 0} (plugin : PluginOf P) where
  pub needed-so : (name : Word) (old new : Held P) (d : DataSet) → Goes plugin (needed name) old (Ok d) new → finite.get old.contents name ≡ Some (Good d)
  needed-so name old new d (inl s) = absurd s.wanting
  needed-so name old new d (inr (Ok x, u, m, rest)) = subst (λ y. finite.get old.contents name ≡ Some (Good y)) (sym (gave plugin x d u new rest).0) m.0
  needed-so name old new d (inr (Err e, u, m, inl s)) = absurd s.wanting
  needed-so name old new d (inr (Err e, u, m, inr (is, same))) = absurd (ok_no_err is)

  bytes-so : (absent : Refusal) (x : Result (List ℕ) ShelfError) (bytes : List ℕ) (old new : Held P) → Goes plugin (bytes_of absent x) old (Ok bytes) new → x ≡ Ok bytes
  bytes-so absent (Ok b) bytes old new h = ap Ok (sym (gave plugin b bytes old new h).0)
  bytes-so absent (Err shelf_error.Absent) bytes old new (inl s) = absurd s.wanting
  bytes-so absent (Err shelf_error.Absent) bytes old new (inr (is, same)) = absurd (ok_no_err is)
  bytes-so absent (Err shelf_error.TooLarge) bytes old new (inl s) = absurd s.wanting
  bytes-so absent (Err shelf_error.TooLarge) bytes old new (inr (is, same)) = absurd (ok_no_err is)
  bytes-so absent (Err shelf_error.Failed) bytes old new (inl s) = absurd s.wanting
  bytes-so absent (Err shelf_error.Failed) bytes old new (inr (is, same)) = absurd (ok_no_err is)
  bytes-so absent (Err shelf_error.NoMemory) bytes old new (inl s) = absurd s.wanting
  bytes-so absent (Err shelf_error.NoMemory) bytes old new (inr (is, same)) = absurd (ok_no_err is)

  -- a file that has to be there
  pub file-so : (absent : Refusal) (name : Word) (old new : Held P) (bytes : List ℕ) → Goes plugin (file absent name) old (Ok bytes) new → old.files name ≡ Some bytes
  file-so absent name old new bytes (inl s) = absurd s.wanting
  file-so absent name old new bytes (inr (Ok b, u, m, rest)) = m.0.0 ∙ ap Some (ok_is (bytes-so absent (Ok b) bytes u new rest))
  file-so absent name old new bytes (inr (Err e, u, m, rest)) = absurd (ok_no_err (sym (bytes-so absent (Err e) bytes u new rest)))

  tree-so : (path : Word) (bytes : List ℕ) (x : Reading) (s : PlainSource) (old new : Held P) → Reads bytes x → Goes plugin (tree_of path bytes x) old (Ok s) new → (s.path ≡ path) × (s.text ≡ bytes) × Reads s.text (tree s.body)
  tree-so path bytes (tree b) s old new r h =
      let is = (gave plugin (record { path = path; text = bytes; body = b }) s old new h).0 in
      (ap (λ (f : PlainSource). f.path) is, ap (λ (f : PlainSource). f.text) is, subst (λ (f : PlainSource). Reads f.text (tree f.body)) (sym is) r)
  tree-so path bytes (no_text line) s old new r (inl e) = absurd e.wanting
  tree-so path bytes (no_text line) s old new r (inr (is, same)) = absurd (ok_no_err is)
  tree-so path bytes (long lines) s old new r (inl e) = absurd e.wanting
  tree-so path bytes (long lines) s old new r (inr (is, same)) = absurd (ok_no_err is)
  tree-so path bytes (stuck error) s old new r (inl e) = absurd e.wanting
  tree-so path bytes (stuck error) s old new r (inr (is, same)) = absurd (ok_no_err is)
  tree-so path bytes (no_tree error) s old new r (inl e) = absurd e.wanting
  tree-so path bytes (no_tree error) s old new r (inr (is, same)) = absurd (ok_no_err is)
  tree-so path bytes (ill_formed error) s old new r (inl e) = absurd e.wanting
  tree-so path bytes (ill_formed error) s old new r (inr (is, same)) = absurd (ok_no_err is)
  tree-so path bytes unread s old new r (inl e) = absurd e.wanting
  tree-so path bytes unread s old new r (inr (is, same)) = absurd (ok_no_err is)

  checked-so : (path : Word) (bytes : List ℕ) (s : PlainSource) (old new : Held P) → Goes plugin (ask (checks bytes) (tree_of path bytes)) old (Ok s) new → (s.path ≡ path) × (s.text ≡ bytes) × Reads s.text (tree s.body)
  checked-so path bytes s old new (inl e) = absurd e.wanting
  checked-so path bytes s old new (inr (x, u, m, rest)) = tree-so path bytes x s u new m.0 rest

  source-so : (path : Word) (s : PlainSource) (old new : Held P) → Goes plugin (source path) old (Ok s) new → (s.path ≡ path) × (old.files s.path ≡ Some s.text) × Reads s.text (tree s.body)
  source-so path s old new h =
      let x = went plugin (file (no_source path) path) (λ bytes. ask (checks bytes) (tree_of path bytes)) old new s h in
      let y = checked-so path x.0 s x.1 new x.3 in
      (y.0, ap old.files y.0 ∙ file-so (no_source path) path old x.1 x.0 x.2 ∙ ap Some (sym y.1), y.2)

  -- all sources
  sources-so : (paths : List Word) (sources : List PlainSource) (old new : Held P) → Goes plugin (each source paths) old (Ok sources) new → (map (λ f. f.path) sources ≡ paths) × AreRead old.files sources
  sources-so [] sources old new h =
      let is = (gave plugin [] sources old new h).0 in
      (ap (map (λ (f : PlainSource). f.path)) is, subst (AreRead old.files) (sym is) tt)
  sources-so (path ∷ paths) sources old new h =
      let x = quietly plugin (source path) (λ b. bind (each source paths) (λ more. give (b ∷ more))) old new sources (quiet-source path) h in
      let y = went plugin (each source paths) (λ more. give (x.0 ∷ more)) old new sources x.2 in
      let is = (gave plugin (x.0 ∷ y.0) sources y.1 new y.3).0 in
      let one = source-so path x.0 old old x.1 in
      let rest = sources-so paths y.0 old y.1 y.2 in (
        ap (map (λ (f : PlainSource). f.path)) is ∙ ap (λ q. q ∷ map (λ (f : PlainSource). f.path) y.0) one.0 ∙ ap (λ qs. path ∷ qs) rest.0,
        subst (AreRead old.files) (sym is) (one.1, one.2, rest.1),
      )

  -- ---- patterns and paths

  patterns-so : (s : ReportSettings) (p : Patterns) (old new : Held P) → Goes plugin (patterns s) old (Ok p) new → p ≡ patterns_of s
  patterns-so s p old new h =
      let exclude = s.exclude_lines ++ s.exclude_also in
      let partial = s.partial_branches in
      let made : Patterns = record { exclude = exclude; partial = partial ++ always } in
      let six = ask (makes (partial ++ always)) (on (pattern_refusal (length exclude))) in
      let five = ask (makes exclude) (on (pattern_refusal 0)) in
      let a = went plugin (few exclude) (λ a. bind (few partial) (λ b. bind (short exclude) (λ c. bind (short partial) (λ d. bind five (λ e. bind six (λ f. give made)))))) old new p h in
      let b = went plugin (few partial) (λ b. bind (short exclude) (λ c. bind (short partial) (λ d. bind five (λ e. bind six (λ f. give made))))) a.1 new p a.3 in
      let c = went plugin (short exclude) (λ c. bind (short partial) (λ d. bind five (λ e. bind six (λ f. give made)))) b.1 new p b.3 in
      let d = went plugin (short partial) (λ d. bind five (λ e. bind six (λ f. give made))) c.1 new p c.3 in
      let e = went plugin five (λ e. bind six (λ f. give made)) d.1 new p d.3 in
      let f = went plugin six (λ f. give made) e.1 new p e.3 in
      (gave plugin made p f.1 new f.3).0

  some_path-so : (name : Word) (ps paths : List Word) (old new : Held P) → Goes plugin (some_path name ps) old (Ok paths) new → paths ≡ ps
  some_path-so name [] paths old new (inl s) = absurd s.wanting
  some_path-so name [] paths old new (inr (is, same)) = absurd (ok_no_err is)
  some_path-so name (p ∷ ps) paths old new h = (gave plugin (p ∷ ps) paths old new h).0

  -- ---- the last call

  written-so : (bytes : List ℕ) (b a : Answered) (old new : Held P) → Goes plugin (write_last bytes b) old (Ok a) new → (a ≡ b) × (new ≡ record old { out = old.out ++ bytes })
  written-so bytes b a old new (inl s) = absurd s.wanting
  written-so bytes b a old new (inr (None, u, m, (is, same))) = (ok_is is, same ∙ m.1)
  written-so bytes b a old new (inr (Some e, u, m, rest)) = absurd (none m.0)
    where
      none : {A : Type 0} {x : A} → ◌≡◌ {A = Option A} (Some x) None → ⊥
      none e = cc

  filed-so : (name : Word) (bytes : List ℕ) (b a : Answered) (old new : Held P) → Goes plugin (ask (puts name bytes) (last shelf_refusal b)) old (Ok a) new → (a ≡ b) × (new ≡ record old { files = with_file name bytes old.files })
  filed-so name bytes b a old new (inl s) = absurd s.wanting
  filed-so name bytes b a old new (inr (None, u, m, (is, same))) = (ok_is is, same ∙ m.1 ∙ ap (λ (files : Files). record old { files = files }) m.0)
  filed-so name bytes b a old new (inr (Some e, u, m, inl s)) = absurd s.wanting
  filed-so name bytes b a old new (inr (Some e, u, m, inr (is, same))) = absurd (ok_no_err is)

  put-so : (name : Word) (bytes : List ℕ) (b a : Answered) (old new : Held P) → Goes plugin (put_last name bytes b) old (Ok a) new → (a ≡ b) × (new ≡ with_text name bytes old)
  put-so name bytes b a old new h = by (bytes_eq name (codes "-")) h
    where
      by : (dash : Bool) → Goes plugin (if dash then write_last bytes b else ask (puts name bytes) (last shelf_refusal b)) old (Ok a) new
          → (a ≡ b) × (new ≡ (if dash then record old { out = old.out ++ bytes } else record old { files = with_file name bytes old.files }))
      by true g = written-so bytes b a old new g
      by false g = filed-so name bytes b a old new g

  -- ---- what a report tells

  quiet-paths : (name : Word) (ps : List Word) → IsQuiet (some_path name ps)
  quiet-paths name [] = tt
  quiet-paths name (p ∷ ps) = tt

  listed-so : (s : Settings) (p : Patterns) (d : DataSet) (sources : List PlainSource) (old new : Held P) (r : Report) → p ≡ patterns_of s.report → Goes plugin (give (record { settings = s; arcs = d.arcs; files = map (analysed p d) sources })) old (Ok r) new
      → r ≡ record { settings = s; arcs = d.arcs; files = map (analysed (patterns_of s.report) d) sources }
  listed-so s p d sources old new r is h =
      (gave plugin (record { settings = s; arcs = d.arcs; files = map (analysed p d) sources }) r old new h).0
      ∙ (λ i. record { settings = s; arcs = d.arcs; files = map (analysed (is i) d) sources })

  -- what is reported
  abbrev IsReported : Settings → Word → Held P → Report → Type 0
  IsReported s own old r =
      (d : DataSet) × (sources : List PlainSource) × (r ≡ record { settings = s; arcs = d.arcs; files = map (analysed (patterns_of s.report) d) sources })
      × (finite.get old.contents own ≡ Some (Good d)) × (map (λ f. f.path) sources ≡ filter (is_reported s.report.omit) (paths_of d)) × AreRead old.files sources

  of-sources : (s : Settings) (p : Patterns) (own : Word) (d : DataSet) (paths : List Word) (old new : Held P) (r : Report) → p ≡ patterns_of s.report → finite.get old.contents own ≡ Some (Good d) → paths ≡ filter (is_reported s.report.omit) (paths_of d)
      → Goes plugin (bind (each source paths) (λ sources. give (record { settings = s; arcs = d.arcs; files = map (analysed p d) sources }))) old (Ok r) new → IsReported s own old r
  of-sources s p own d paths old new r is held at h =
      let m = quietly plugin (each source paths) (λ sources. give (record { settings = s; arcs = d.arcs; files = map (analysed p d) sources })) old new r (each-keeps is_quiet source quiet-source paths) h in
      let so = sources-so paths m.0 old old m.1 in
      (d, m.0, listed-so s p d m.0 old new r is m.2, held, so.0 ∙ at, so.1)

  of-paths : (s : Settings) (p : Patterns) (own : Word) (d : DataSet) (old new : Held P) (r : Report) → p ≡ patterns_of s.report → finite.get old.contents own ≡ Some (Good d)
      → Goes plugin (bind (reported_paths own s.report.omit d) (λ paths. bind (each source paths) (λ sources. give (record { settings = s; arcs = d.arcs; files = map (analysed p d) sources })))) old (Ok r) new → IsReported s own old r
  of-paths s p own d old new r is held h =
      let ps : List Word = filter (is_reported s.report.omit) (paths_of d) in
      let l = quietly plugin (some_path own ps) (λ paths. bind (each source paths) (λ sources. give (record { settings = s; arcs = d.arcs; files = map (analysed p d) sources }))) old new r (quiet-paths own ps) h in
      of-sources s p own d l.0 old new r is held (some_path-so own ps l.0 old old l.1) l.2

  reported_in-so : (s : Settings) (p : Patterns) (own : Word) (old new : Held P) (r : Report) → p ≡ patterns_of s.report → Goes plugin (reported_in s p own) old (Ok r) new → IsReported s own old r
  reported_in-so s p own old new r is h =
      let k = quietly plugin (needed own) (λ d. bind (reported_paths own s.report.omit d) (λ paths. bind (each source paths) (λ sources. give (record { settings = s; arcs = d.arcs; files = map (analysed p d) sources })))) old new r (quiet-needed own) h in
      of-paths s p own k.0 old new r is (needed-so own old old k.0 k.1) k.2

  of-settings : (s : Settings) (own : Word) (old : Held P) (r : Report) → Goes plugin (bind (patterns s.report) (λ p. reported_in s p own)) old (Ok r) old → IsReported s own old r
  of-settings s own old r h =
      let z = quietly plugin (patterns s.report) (λ p. reported_in s p own) old old r (quiet-patterns_by (s.report.exclude_lines ++ s.report.exclude_also) s.report.partial_branches) h in
      reported_in-so s z.0 own old old r (patterns-so s.report z.0 old old z.1) z.2

  module _ (first : Contents) (runs : Recorded) (fail_under : Option ℕ) (data_file rcfile : Option Word) (old : Held P) (a : Answered) (new : Held P) (k : AreKept first runs old.contents) where
    -- what is reported, with where it comes from
    record Comes (s : Settings) (r : Report) : Type 0 where
      so : Reported first runs s.report (own_name data_file s) old
      is : r ≡ record { settings = s; arcs = so.d.arcs; files = map (analysed (patterns_of s.report) so.d) so.sources }

    of-reported : (s : Settings) (r : Report) → IsReported s (own_name data_file s) old r → Comes s r
    of-reported s r (d, sources, is, held, paths, read) = let x = k (own_name data_file s) d held in record {
      so = record {
        d = d;
        held = held;
        sources = sources;
        paths = paths;
        read = read;
        origin = x.0;
        is = x.1;
        of = x.2;
        from = x.3;
        missing = missing-all (patterns_of s.report) d x.0 x.1 x.2 sources;
      };
      is = is;
    }

    reported-so : (r : Report) → Goes plugin (reported data_file rcfile) old (Ok r) old → (s : Settings) × IsSet plugin rcfile old s × Comes s r
    reported-so r h =
        let y = quietly plugin (settings rcfile) (λ s. bind (patterns s.report) (λ p. reported_in s p (own_name data_file s))) old old r (quiet-settings rcfile) h in
        (y.0, record { ends = y.1 }, of-reported y.0 r (of-settings y.0 (own_name data_file y.0) old r y.2))

    -- ---- the table

    table-so : (show : Bool) (s : Settings) (r : Report) → Comes s r → Goes plugin (write_last (text_bytes r.files r.arcs (show || r.settings.report.show_missing)) (judged (or_else fail_under r.settings.report.fail_under) r.files)) old (Ok a) new
        → ReportPromise first runs s.report (own_name data_file s) (show || s.report.show_missing) (or_else fail_under s.report.fail_under) old a new
    table-so show s r c g =
        let v = written-so (text_bytes r.files r.arcs (show || r.settings.report.show_missing)) (judged (or_else fail_under r.settings.report.fail_under) r.files) a old new g in record {
          reported = c.so;
          printed = v.1 ∙ ap (λ (q : Report). record old { out = old.out ++ text_bytes q.files q.arcs (show || q.settings.report.show_missing) }) c.is;
          ended = v.0 ∙ ap (λ (q : Report). judged (or_else fail_under q.settings.report.fail_under) q.files) c.is;
        }

    of-table : (show : Bool) (r : Report) → Goes plugin (reported data_file rcfile) old (Ok r) old → Goes plugin (write_last (text_bytes r.files r.arcs (show || r.settings.report.show_missing)) (judged (or_else fail_under r.settings.report.fail_under) r.files)) old (Ok a) new
        → (s : Settings) × IsSet plugin rcfile old s × ReportPromise first runs s.report (own_name data_file s) (show || s.report.show_missing) (or_else fail_under s.report.fail_under) old a new
    of-table show r h g =
        let x = reported-so r h in
        (x.0, x.1, table-so show x.0 r x.2 g)

    -- a report that did its work
    pub report-promise : (show : Bool) → Goes plugin (report show fail_under data_file rcfile) old (Ok a) new
        → (s : Settings) × IsSet plugin rcfile old s × ReportPromise first runs s.report (own_name data_file s) (show || s.report.show_missing) (or_else fail_under s.report.fail_under) old a new
    report-promise show h =
        let x = quietly plugin (reported data_file rcfile) (λ r. write_last (text_bytes r.files r.arcs (show || r.settings.report.show_missing)) (judged (or_else fail_under r.settings.report.fail_under) r.files)) old new a (quiet-reported data_file rcfile) h in
        of-table show x.0 x.1 x.2

    -- ---- its text in another form

    module _ (name : Word) (bytes : List AnalysisView → Bool → List ℕ) where
      text-so : (s : Settings) (r : Report) → Comes s r → Goes plugin (put_last name (bytes r.files r.arcs) (judged (or_else fail_under r.settings.report.fail_under) r.files)) old (Ok a) new
          → PutPromise first runs s.report (own_name data_file s) name bytes (or_else fail_under s.report.fail_under) old a new
      text-so s r c g =
          let v = put-so name (bytes r.files r.arcs) (judged (or_else fail_under r.settings.report.fail_under) r.files) a old new g in record {
            reported = c.so;
            put = v.1 ∙ ap (λ (q : Report). with_text name (bytes q.files q.arcs) old) c.is;
            ended = v.0 ∙ ap (λ (q : Report). judged (or_else fail_under q.settings.report.fail_under) q.files) c.is;
          }

      of-text : (r : Report) → Goes plugin (reported data_file rcfile) old (Ok r) old → Goes plugin (put_last name (bytes r.files r.arcs) (judged (or_else fail_under r.settings.report.fail_under) r.files)) old (Ok a) new
          → (s : Settings) × IsSet plugin rcfile old s × PutPromise first runs s.report (own_name data_file s) name bytes (or_else fail_under s.report.fail_under) old a new
      of-text r h g =
          let x = reported-so r h in
          (x.0, x.1, text-so x.0 r x.2 g)

      -- one that is put and did its work
      pub put-promise : Goes plugin (bind (reported data_file rcfile) (λ r. put_last name (bytes r.files r.arcs) (judged (or_else fail_under r.settings.report.fail_under) r.files))) old (Ok a) new
          → (s : Settings) × IsSet plugin rcfile old s × PutPromise first runs s.report (own_name data_file s) name bytes (or_else fail_under s.report.fail_under) old a new
      put-promise h =
          let x = quietly plugin (reported data_file rcfile) (λ r. put_last name (bytes r.files r.arcs) (judged (or_else fail_under r.settings.report.fail_under) r.files)) old new a (quiet-reported data_file rcfile) h in
          of-text x.0 x.1 x.2
