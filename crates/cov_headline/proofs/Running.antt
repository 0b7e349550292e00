-- What a run promises.
use Rattle.std.proofs.Common.{◌≡◌, inl, inr, ◌∙◌, ℕ, Bool, true, false, if◌then◌else◌, refl, sym, ap, subst, List, Option, Some, None, Ok, Err}
use Rattle.std.specs.Bool.{beq}
use Rattle.std.specs.FinMap as finite
use Rattle.std.specs.Str.{chars}
use Rattle.cov_contexts.specs.declared.plugins.Plugin.{Ghosts as PluginOf}
use Rattle.py_meaning.specs.Modules.{LoadedModule}
use Rattle.py_syntax.specs.Tree.{Text}
use Rattle.cov_data.specs.DataSet.{DataSet}
use Rattle.cov_programs.specs.Programs.{give, bind}
use Rattle.cov_programs.proofs.Results.{ok_is, ok_no_err}
use Rattle.cov_run.specs.Loading.{told_by, IsLoaded}
use Rattle.cov_vault.specs.declared.vault.Content.{Content}
use Rattle.cov_vault.specs.declared.vault.Content.TheVariants.{Good}
use Rattle.cov_vault.specs.declared.vault.VaultError.TheVariants as vault_error
use Rattle.cov_why.specs.Answers.{Refusal, mixed}
use Rattle.cov_words.specs.Values.{Word}
use Rattle.cov_step.specs.Calls.{Answered, Asked, HookFiles, refuse}
use Rattle.cov_step.specs.Answers.{Before, nothing, there, bad_row}
use Rattle.cov_step.specs.Commands.{asked_by, hook_named, measured, run_by, run}
use Rattle.cov_step.specs.Phases.{before, main_name, opened, settings, own_name, hook_of, joins, joined, answered_by}
use Rattle.cov_headline.specs.Promises.{IsSet, run_of, AddsTo, RunPromise}
use Rattle.cov_headline.specs.Told.{Held}
use Rattle.cov_headline.proofs.Going.{Goes, quietly, gave, quiet-settings, quiet-opened, quiet-hook, quiet-before, quiet-joins}
use Rattle.cov_headline.proofs.Recorded.{CameLaw, recorded, foreseen}

-- what stood under a name
abbrev pub Stood : Before → Option Content → Type 0
Stood nothing held = held ≡ None
Stood (there d) held = held ≡ Some (Good d)
Stood (bad_row i) held = Unit {0}

same-flag : (a b : Bool) → beq a b ≡ true → b ≡ a
same-flag true true h = refl
same-flag true false h = cc
same-flag false true h = cc
same-flag false false h = refl

module _ {P : Type 0} (plugin : PluginOf P) where
  -- a script that was loaded
  pub opened-so : (name : Text) (script : Word) (old : Held P) (ms : List LoadedModule) → Goes plugin (opened name script) old (Ok ms) old → IsLoaded (told_by old.files (chars script)) (chars script) name ms
  opened-so name script old ms (inl s) = absurd s.wanting
  opened-so name script old ms (inr (Ok x, u, m, rest)) = subst (λ y. IsLoaded (told_by old.files (chars script)) (chars script) name y) (sym (gave plugin x ms u old rest).0) m.0
  opened-so name script old ms (inr (Err e, u, m, inl s)) = absurd s.wanting
  opened-so name script old ms (inr (Err e, u, m, inr (is, same))) = absurd (ok_no_err is)

  -- what stands under the name of a command's data
  pub before-so : (own : Word) (old : Held P) (was : Before) → Goes plugin (before own) old (Ok was) old → Stood was (finite.get old.contents own)
  before-so own old was (inl s) = absurd s.wanting
  before-so own old was (inr (Ok d, u, m, rest)) = subst (λ w. Stood w (finite.get old.contents own)) (sym (gave plugin (there d) was u old rest).0) m.0
  before-so own old was (inr (Err vault_error.Absent, u, m, rest)) = subst (λ w. Stood w (finite.get old.contents own)) (sym (gave plugin nothing was u old rest).0) m.0
  before-so own old was (inr (Err (vault_error.BadRow i), u, m, rest)) = subst (λ w. Stood w (finite.get old.contents own)) (sym (gave plugin (bad_row i) was u old rest).0) tt
  before-so own old was (inr (Err vault_error.NotSchema7, u, m, inl s)) = absurd s.wanting
  before-so own old was (inr (Err vault_error.NotSchema7, u, m, inr (is, same))) = absurd (ok_no_err is)
  before-so own old was (inr (Err vault_error.Failed, u, m, inl s)) = absurd s.wanting
  before-so own old was (inr (Err vault_error.Failed, u, m, inr (is, same))) = absurd (ok_no_err is)
  before-so own old was (inr (Err vault_error.NoMemory, u, m, inl s)) = absurd s.wanting
  before-so own old was (inr (Err vault_error.NoMemory, u, m, inr (is, same))) = absurd (ok_no_err is)

  -- what rows are joined to
  joins-there : (b : Bool) (arcs : Bool) (d : DataSet) (held : Option Content) (x : Option DataSet) (old : Held P) (r : Refusal) → beq arcs d.arcs ≡ b → held ≡ Some (Good d)
      → Goes plugin (if b then give (Some d) else refuse r) old (Ok x) old → AddsTo true arcs held x
  joins-there true arcs d held x old r e at h = subst (λ y. AddsTo true arcs held y) (sym (gave plugin (Some d) x old old h).0) (refl, at, same-flag arcs d.arcs e)
  joins-there false arcs d held x old r e at (inl s) = absurd s.wanting
  joins-there false arcs d held x old r e at (inr (is, same)) = absurd (ok_no_err is)

  pub joins-so : (append : Bool) (own : Word) (arcs : Bool) (was : Before) (x : Option DataSet) (old : Held P) → Stood was (finite.get old.contents own) → Goes plugin (joins append own arcs was) old (Ok x) old → AddsTo append arcs (finite.get old.contents own) x
  joins-so false own arcs was x old at h = subst (λ y. AddsTo false arcs (finite.get old.contents own) y) (sym (gave plugin None x old old h).0) (inl refl)
  joins-so true own arcs nothing x old at h = subst (λ y. AddsTo true arcs (finite.get old.contents own) y) (sym (gave plugin None x old old h).0) (inr at)
  joins-so true own arcs (there d) x old at h = joins-there (beq arcs d.arcs) arcs d (finite.get old.contents own) x old (mixed arcs d.arcs) refl at h
  joins-so true own arcs (bad_row i) x old at (inl s) = absurd s.wanting
  joins-so true own arcs (bad_row i) x old at (inr (is, same)) = absurd (ok_no_err is)

  module _ (came : CameLaw) (asked : Asked) (own script : Word) (append : Bool) (named : Option (Word × Word)) (old : Held P) (a : Answered) (new : Held P) where
    by-measured : (ms : List LoadedModule) (hook : Option HookFiles) (was : Option DataSet) → IsLoaded (told_by old.files (chars script)) (chars script) main_name ms
        → Goes plugin (hook_of named) old (Ok hook) old → AddsTo append asked.arcs (finite.get old.contents own) was → Goes plugin (measured own asked ms hook was) old (Ok a) new → RunPromise plugin asked own script append named old a new
    by-measured ms hook was loaded hooked adds (inl s) = absurd s.wanting
    by-measured ms hook was loaded hooked adds (inr (Err fault, u, m, rest)) = absurd m
    by-measured ms hook was loaded hooked adds (inr (Ok r, u, m, inl s)) = absurd s.wanting
    by-measured ms hook was loaded hooked adds (inr (Ok r, u, m, inr (Some e, v, n, inl s))) = absurd s.wanting
    by-measured ms hook was loaded hooked adds (inr (Ok r, u, m, inr (Some e, v, n, inr (is, same)))) = absurd (ok_no_err is)
    by-measured ms hook was loaded hooked adds (inr (Ok r, u, m, inr (None, v, n, (is, same)))) = record {
      modules = ms;
      loaded = loaded;
      printed = ap (λ (w : Held P). w.out) same ∙ ap (λ (w : Held P). w.out) n.1 ∙ m.0.ended.out;
      left = ap (λ (w : Held P). w.left) same ∙ ap (λ (w : Held P). w.left) n.1 ∙ m.0.ended.left;
      ended = ok_is is ∙ ap (answered_by asked.budget) m.0.ended.outcome;
      rows = r.rows;
      kind = m.0.ended.rows.counted.kind;
      recorded = recorded came (run_of asked ms old.left) asked.context r.rows asked.arcs m.0.ended.rows.counted.kind m.0.steps.all;
      foreseen = foreseen came (run_of asked ms old.left) asked.context r.rows asked.arcs m.0.steps.foreseen;
      hook = hook;
      hooked = record { ends = hooked };
      rest = m.0.ended.left_sources;
      labelled = m.0.ended.rows;
      plugins = ap (λ (w : Held P). w.plugins) same ∙ ap (λ (w : Held P). w.plugins) n.1 ∙ m.0.ended.left_plugins;
      before = was;
      adds = adds;
      saved = ap (λ (w : Held P). w.contents) same ∙ n.0.1 ∙ ap (λ c. finite.insert c own (Good (joined was r.rows))) (ap (λ (w : Held P). w.contents) m.1);
      same = (
        ap (λ (w : Held P). w.files) same ∙ ap (λ (w : Held P). w.files) n.1 ∙ ap (λ (w : Held P). w.files) m.1,
        ap (λ (w : Held P). w.err) same ∙ ap (λ (w : Held P). w.err) n.1 ∙ ap (λ (w : Held P). w.err) m.1,
      );
    }

    by-run : Goes plugin (run_by own append asked named script) old (Ok a) new → RunPromise plugin asked own script append named old a new
    by-run h =
        let x = quietly plugin (opened main_name script) (λ ms. bind (hook_of named) (λ h. bind (before own) (λ was. bind (joins append own asked.arcs was) (measured own asked ms h)))) old new a (quiet-opened main_name script) h in
        let y = quietly plugin (hook_of named) (λ h. bind (before own) (λ was. bind (joins append own asked.arcs was) (measured own asked x.0 h))) old new a (quiet-hook named) x.2 in
        let z = quietly plugin (before own) (λ was. bind (joins append own asked.arcs was) (measured own asked x.0 y.0)) old new a (quiet-before own) y.2 in
        let w = quietly plugin (joins append own asked.arcs z.0) (measured own asked x.0 y.0) old new a (quiet-joins append own asked.arcs z.0) z.2 in
        by-measured x.0 y.0 w.0 (opened-so main_name script old x.0 x.1) y.1 (joins-so append own asked.arcs z.0 w.0 old (before-so own old z.0 z.1) w.1) w.2

  -- a run that did its work
  pub run-promise : CameLaw → (branch append : Bool) (context : Option Word) (steps : Option ℕ) (hook : Option (Word × Word)) (data_file rcfile : Option Word) (script : Word) (args : List Word) (old : Held P) (a : Answered) (new : Held P)
      → Goes plugin (run branch append context steps hook data_file rcfile script args) old (Ok a) new
      → (s : _) × IsSet plugin rcfile old s × RunPromise plugin (asked_by s branch context steps script args) (own_name data_file s) script append (hook_named hook s.run.hook) old a new
  run-promise came branch append context steps hook data_file rcfile script args old a new h =
      let x = quietly plugin (settings rcfile) (λ s. run_by (own_name data_file s) append (asked_by s branch context steps script args) (hook_named hook s.run.hook) script) old new a (quiet-settings rcfile) h in
      (x.0, record { ends = x.1 }, by-run came (asked_by x.0 branch context steps script args) (own_name data_file x.0) script append (hook_named hook x.0.run.hook) old a new x.2)
