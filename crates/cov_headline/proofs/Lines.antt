-- Each line of a script, and words.
use Rattle.std.proofs.Common.{◌≡◌, inl, inr, ◌∙◌, ℕ, ◌++◌, Bool, true, false, if◌then◌else◌, refl, sym, ap, subst, List, [], ◌∷◌, Option, Some, None, Result, Ok, Err}
use Rattle.std.specs.Prelude.{nat_le, codes}
use Rattle.std.specs.Str.{chars, is_utf8}
use Rattle.std.specs.Str.Lines.{lines}
use Rattle.cov_contexts.specs.declared.plugins.Plugin.{Ghosts as PluginOf}
use Rattle.py_token.specs.Source.{line_count, most_lines}
use Rattle.cov_json.specs.Json.{json_bytes}
use Rattle.cov_lcov.specs.Lcov.{lcov_bytes}
use Rattle.cov_programs.specs.Laws.{Folds, Parted, nothing_wants}
use Rattle.cov_programs.specs.Programs.{give, bind, each}
use Rattle.cov_programs.proofs.Folding.{parted, folds}
use Rattle.cov_programs.proofs.Parts.{then-keeps}
use Rattle.cov_programs.proofs.Results.{ok_no_err}
use Rattle.cov_run.specs.Reading.{fault_line}
use Rattle.cov_vault.specs.Contents.{Contents}
use Rattle.cov_why.specs.Answers.{PlainWhy, Refusal, usage, no_such_file, syntax, limit}
use Rattle.cov_why.specs.declared.why.LimitKind.TheVariants as limits
use Rattle.cov_why.specs.declared.why.SyntaxKind.TheVariants as kinds
use Rattle.cov_why.specs.Messages.{message_of}
use Rattle.cov_words.specs.Commands.{PlainCommand, IsCommand}
use Rattle.cov_words.specs.Commands as plain
use Rattle.cov_words.specs.Values.{Word}
use Rattle.cov_step.specs.Calls.{Answered, refuse}
use Rattle.cov_step.specs.Names.{or_else}
use Rattle.cov_step.specs.Phases.{file, done}
use Rattle.cov_step.specs.Scripts.{inside, words_in, status_line, ended_in, line_done, is_comment, words_done, line_step, is_text, is_short, is_script, script_text, lines_done, script}
use Rattle.cov_step.specs.Step.{doing, step}
use Rattle.cov_headline.specs.Headline.{LineDone, LinesKept, ScriptKept, DoneOrRefused, CommandKept, Headline}
use Rattle.cov_headline.specs.Commands.{Promise, runs_of}
use Rattle.cov_headline.specs.Kept.{Recorded, AreKept}
use Rattle.cov_headline.specs.Told.{Held, IsSaidNow, tells}
use Rattle.cov_headline.proofs.Combining.{combine-promise}
use Rattle.cov_headline.proofs.Going.{Goes, is_quiet, IsQuiet, went, quiet-same, gave, bytes-keeps}
use Rattle.cov_headline.proofs.Kept.{kept-first, promise-keeps}
use Rattle.cov_headline.proofs.Losing.{loses-all, arcs-none, annotate-none, erase-none, make-none}
use Rattle.cov_headline.proofs.Recorded.{CameLaw}
use Rattle.cov_headline.proofs.Reporting.{report-promise, put-promise, file-so}
use Rattle.cov_headline.proofs.Retesting.{select-promise, mutate-promise}
use Rattle.cov_headline.proofs.Running.{run-promise}
use Rattle.cov_headline.proofs.Testing.{suite-promise}

module _ {P : Type 0} (plugin : PluginOf P) (came : CameLaw) where
  -- ---- a command

  refused-so : {A : Type 0} (why : Refusal) (a : A) (old new : Held P) → Goes plugin (refuse {A = A} why) old (Ok a) new → ⊥
  refused-so why a old new (inl s) = s.wanting
  refused-so why a old new (inr (is, same)) = ok_no_err is

  -- one that did its work keeps its promise
  inside-promise : (first : Contents) (runs : Recorded) (c : PlainCommand) (old : Held P) (a : Answered) (new : Held P) → AreKept first runs old.contents → Goes plugin (inside c) old (Ok a) new → Promise plugin first runs c old a new
  inside-promise first runs (plain.arcs budget script args) old a new k h = loses-all plugin (inside (plain.arcs budget script args)) old new (Ok a) (arcs-none budget script args) h
  inside-promise first runs (plain.run branch append context budget hook data_file rcfile script args) old a new k h = run-promise plugin came branch append context budget hook data_file rcfile script args old a new h
  inside-promise first runs (plain.combine append keep data_file rcfile names) old a new k h = combine-promise plugin append keep data_file rcfile names old a new h
  inside-promise first runs (plain.report show_missing fail_under data_file rcfile) old a new k h = report-promise plugin first runs fail_under data_file rcfile old a new k show_missing h
  inside-promise first runs (plain.json name fail_under data_file rcfile) old a new k h = put-promise plugin first runs fail_under data_file rcfile old a new k (or_else name (codes "coverage.json")) json_bytes h
  inside-promise first runs (plain.lcov name fail_under data_file rcfile) old a new k h = put-promise plugin first runs fail_under data_file rcfile old a new k (or_else name (codes "coverage.lcov")) lcov_bytes h
  inside-promise first runs (plain.annotate data_file rcfile path) old a new k h = loses-all plugin (inside (plain.annotate data_file rcfile path)) old new (Ok a) (annotate-none data_file rcfile path) h
  inside-promise first runs (plain.erase data_file rcfile) old a new k h = loses-all plugin (inside (plain.erase data_file rcfile)) old new (Ok a) (erase-none data_file rcfile) h
  inside-promise first runs (plain.script name) old a new k h = refused-so (usage 0) a old new h
  inside-promise first runs (plain.make seed size) old a new k h = loses-all plugin (inside (plain.make seed size)) old new (Ok a) (make-none seed size) h
  inside-promise first runs (plain.suite branch budget data_file rcfile name) old a new k h = suite-promise plugin came branch budget data_file rcfile name old a new h
  inside-promise first runs (plain.select budget old_file new_file) old a new k h = select-promise plugin budget old_file new_file old a new h
  inside-promise first runs (plain.mutate budget name) old a new k h = mutate-promise plugin budget name old a new h

  -- ---- a line

  -- what a line did, and that all data are kept after it
  abbrev LineWent : Contents → Recorded → Word → Held P → Held P → Type 0
  LineWent first runs line old new = (more : Recorded) × LineDone plugin first runs line old more new × AreKept first (more ++ runs) new.contents

  module _ (first : Contents) (runs : Recorded) where
    passed : (line : Word) (old new : Held P) → AreKept first runs old.contents → new ≡ old → LineWent first runs line old new
    passed line old new k e = ([], inl (refl, e), subst (λ (w : Held P). AreKept first runs w.contents) (sym e) k)

    noted-so : (line : Word) (c : PlainCommand) (a : Answered) (old mid new : Held P) (b : Unit {0}) → IsCommand c (words_in line) → (p : Promise plugin first runs c old a mid) → AreKept first runs old.contents → Goes plugin (ended_in a) mid (Ok b) new → LineWent first runs line old new
    noted-so line c a old mid new b is p k (inl s) = absurd s.wanting
    noted-so line c a old mid new b is p k (inr (u, v, n, inl s)) = absurd s.wanting
    noted-so line c a old mid new b is p k (inr (u, v, n, inr (Some e, w, q, rest))) = absurd (none q.0)
      where
        none : {A : Type 0} {x : A} → ◌≡◌ {A = Option A} (Some x) None → ⊥
        none e = cc
    noted-so line c a old mid new b is p k (inr (u, v, n, inr (None, w, q, rest))) =
        let last : new ≡ w = (gave plugin tt b w new rest).1 in
        let err : new.err ≡ v.err = ap (λ (z : Held P). z.err) last ∙ ap (λ (z : Held P). z.err) q.1 in
        let noted : new ≡ record mid { out = mid.out ++ status_line a; err = v.err } = last ∙ q.1 ∙ ap (λ (z : Held P). record z { out = z.out ++ status_line a }) n.1 in (
          runs_of plugin first runs c old a mid p,
          inr (record {
            command = c;
            is = is;
            answer = a;
            mid = mid;
            promise = p;
            ran = refl;
            said = subst (λ e. IsSaidNow mid.err (message_of (Ok a.ended) a.ending) e) (sym err) n.0;
            noted = noted ∙ ap (λ e. record mid { out = mid.out ++ status_line a; err = e }) (sym err);
          }),
          subst (λ m. AreKept first (runs_of plugin first runs c old a mid p ++ runs) m) (sym (ap (λ (z : Held P). z.contents) noted)) (promise-keeps plugin first runs c old a mid p k),
        )

    done-so : (line : Word) (words : List Word) (old new : Held P) (b : Unit {0}) → words_in line ≡ words → AreKept first runs old.contents → Goes plugin (line_done words) old (Ok b) new → LineWent first runs line old new
    done-so line words old new b at k (inl s) = absurd s.wanting
    done-so line words old new b at k (inr (Err i, u, m, inl s)) = absurd s.wanting
    done-so line words old new b at k (inr (Err i, u, m, inr (is, same))) = absurd (ok_no_err is)
    done-so line words old new b at k (inr (Ok c, u, m, rest)) =
        let h : Goes plugin (bind (inside c) ended_in) old (Ok b) new = subst (λ w. Goes plugin (bind (inside c) ended_in) w (Ok b) new) m.1 rest in
        let x = went plugin (inside c) ended_in old new b h in
        noted-so line c x.0 old x.1 new b (subst (λ ws. IsCommand c ws) (sym at) m.0) (inside-promise first runs c old x.0 x.1 k x.2) k x.3

    words-so : (line : Word) (words : List Word) (old new : Held P) (b : Unit {0}) → words_in line ≡ words → AreKept first runs old.contents → Goes plugin (words_done words) old (Ok b) new → LineWent first runs line old new
    words-so line [] old new b at k h = passed line old new k (gave plugin tt b old new h).1
    words-so line (w ∷ ws) old new b at k h = done-so line (w ∷ ws) old new b at k h

    line-so : (line : Word) (old new : Held P) (b : Unit {0}) → AreKept first runs old.contents → Goes plugin (line_step line) old (Ok b) new → LineWent first runs line old new
    line-so line old new b k h = by (is_comment line) h
      where
        by : (c : Bool) → Goes plugin (if c then give tt else words_done (words_in line)) old (Ok b) new → LineWent first runs line old new
        by true g = passed line old new k (gave plugin tt b old new g).1
        by false g = words-so line (words_in line) old new b refl k g

  -- ---- the lines of a script

  all-lines : (first : Contents) (ls : List Word) (runs : Recorded) (old new : Held P) (told : Result (List (Unit {0})) PlainWhy) → AreKept first runs old.contents → Folds (tells plugin) nothing_wants line_step ls old told new → LinesKept plugin first runs ls old told new
  all-lines first [] runs old new told k (inl s) = absurd s.wanting
  all-lines first [] runs old new told k (inr (is, same)) = (k, is, same)
  all-lines first (line ∷ rest) runs old new told k (inl (b, mid, later, h, f, is)) =
      let x = line-so first runs line old mid b k h in
      (k, inl (mid, x.0, later, x.1, all-lines first rest (x.0 ++ runs) mid new later x.2 f, is))
  all-lines first (line ∷ rest) runs old new told k (inr (why, h, is)) = (k, inr (why, record { ends = h }, is))

  -- its file
  quiet-script : (name : Word) → IsQuiet (script_text name)
  quiet-script name = then-keeps is_quiet (file (no_such_file name) name) (is_script name) (λ x. (refl, bytes-keeps is_quiet (no_such_file name) x)) (λ bytes.
      then-keeps is_quiet (is_text name bytes) (λ a. bind (is_short (line_count (chars bytes))) (λ b. give bytes)) (or-refused (is_utf8 bytes) (syntax name (fault_line bytes) kinds.BadCharacter)) (λ a.
      then-keeps is_quiet (is_short (line_count (chars bytes))) (λ b. give bytes) (or-refused (nat_le (line_count (chars bytes)) most_lines) (limit limits.Lines (line_count (chars bytes)))) (λ b. tt)))
    where
      or-refused : (b : Bool) (why : Refusal) → IsQuiet {A = Unit {0}} (if b then give tt else refuse why)
      or-refused true why = tt
      or-refused false why = tt

  text-so : (name : Word) (old new : Held P) (text : List ℕ) → Goes plugin (script_text name) old (Ok text) new → old.files name ≡ Some text
  text-so name old new text h =
      let x = went plugin (file (no_such_file name) name) (is_script name) old new text h in
      let y = went plugin (is_text name x.0) (λ a. bind (is_short (line_count (chars x.0))) (λ b. give x.0)) x.1 new text x.3 in
      let z = went plugin (is_short (line_count (chars x.0))) (λ b. give x.0) y.1 new text y.3 in
      file-so plugin (no_such_file name) name old x.1 x.0 x.2 ∙ ap Some (sym (gave plugin x.0 text z.1 new z.3).0)

  lines-so : (name : Word) (text : List ℕ) (old new : Held P) (ending : Result Answered PlainWhy) → old.files name ≡ Some text → Goes plugin (lines_done (lines text)) old ending new → ScriptKept plugin name old ending new
  lines-so name text old new ending at h = by (parted (tells plugin) nothing_wants (each line_step (lines text)) (λ told. give done) old new ending h)
    where
      by : Parted (tells plugin) nothing_wants (each line_step (lines text)) (λ told. give done) old ending new → ScriptKept plugin name old ending new
      by (inr (why, g, is)) = inr (text, Err why, at, all-lines old.contents (lines text) [] old new (Err why) (kept-first old.contents) (folds (tells plugin) nothing_wants line_step (lines text) old new (Err why) g), is)
      by (inl (told, mid, g, inl s)) = absurd s.wanting
      by (inl (told, mid, g, inr (is, same))) =
          inr (
            text,
            Ok told,
            at,
            subst (λ w. LinesKept plugin old.contents [] (lines text) old (Ok told) w) (sym same)
                (all-lines old.contents (lines text) [] old mid (Ok told) (kept-first old.contents) (folds (tells plugin) nothing_wants line_step (lines text) old mid (Ok told) g)),
            is,
          )

  script-so : (name : Word) (old new : Held P) (ending : Result Answered PlainWhy) → Goes plugin (script name) old ending new → ScriptKept plugin name old ending new
  script-so name old new ending h = by (parted (tells plugin) nothing_wants (script_text name) (λ text. lines_done (lines text)) old new ending h)
    where
      by : Parted (tells plugin) nothing_wants (script_text name) (λ text. lines_done (lines text)) old ending new → ScriptKept plugin name old ending new
      by (inr (why, g, is)) = inl (why, record { ends = g }, is, quiet-same plugin (script_text name) old new (Err why) (quiet-script name) g)
      by (inl (text, mid, g, rest)) =
          lines-so name text old new ending (text-so name old mid text g) (subst (λ w. Goes plugin (lines_done (lines text)) w ending new) (quiet-same plugin (script_text name) old mid (Ok text) (quiet-script name) g) rest)

  -- ---- words

  one-so : (c : PlainCommand) (old new : Held P) (ending : Result Answered PlainWhy) → Goes plugin (inside c) old ending new → DoneOrRefused plugin c old ending new
  one-so c old new (Ok a) h = inside-promise old.contents [] c old a new (kept-first old.contents) h
  one-so c old new (Err why) h = tt

  command-so : (c : PlainCommand) (old new : Held P) (ending : Result Answered PlainWhy) → Goes plugin (doing c) old ending new → CommandKept plugin c old ending new
  command-so (plain.arcs budget script args) old new ending h = one-so (plain.arcs budget script args) old new ending h
  command-so (plain.run branch append context budget hook data_file rcfile script args) old new ending h = one-so (plain.run branch append context budget hook data_file rcfile script args) old new ending h
  command-so (plain.combine append keep data_file rcfile names) old new ending h = one-so (plain.combine append keep data_file rcfile names) old new ending h
  command-so (plain.report show_missing fail_under data_file rcfile) old new ending h = one-so (plain.report show_missing fail_under data_file rcfile) old new ending h
  command-so (plain.json name fail_under data_file rcfile) old new ending h = one-so (plain.json name fail_under data_file rcfile) old new ending h
  command-so (plain.lcov name fail_under data_file rcfile) old new ending h = one-so (plain.lcov name fail_under data_file rcfile) old new ending h
  command-so (plain.annotate data_file rcfile path) old new ending h = one-so (plain.annotate data_file rcfile path) old new ending h
  command-so (plain.erase data_file rcfile) old new ending h = one-so (plain.erase data_file rcfile) old new ending h
  command-so (plain.script name) old new ending h = script-so name old new ending h
  command-so (plain.make seed size) old new ending h = one-so (plain.make seed size) old new ending h
  command-so (plain.suite branch budget data_file rcfile name) old new ending h = one-so (plain.suite branch budget data_file rcfile name) old new ending h
  command-so (plain.select budget old_file new_file) old new ending h = one-so (plain.select budget old_file new_file) old new ending h
  command-so (plain.mutate budget name) old new ending h = one-so (plain.mutate budget name) old new ending h

  pub words-kept : (words : List Word) (old new : Held P) (ending : Result Answered PlainWhy) → Goes plugin (step words) old ending new → Headline plugin words old ending new
  words-kept words old new ending (inl s) = absurd s.wanting
  words-kept words old new ending (inr (Ok c, u, m, rest)) = inl (c, m.0, command-so c old new ending (subst (λ w. Goes plugin (doing c) w ending new) m.1 rest))
  words-kept words old new ending (inr (Err i, u, m, inl s)) = absurd s.wanting
  words-kept words old new ending (inr (Err i, u, m, inr (is, same))) = inr (m.0.0, (i, is), same ∙ m.1)
