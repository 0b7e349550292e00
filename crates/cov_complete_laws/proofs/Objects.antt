-- The objects that a command is lent answer by what shelf and vault hold, where these tell it, no fault
-- is counted and memory suffices.
use Rattle.std.proofs.Common.{◌≡◌, inl, inr, ◌∙◌, ℕ, ◌≤◌, Bool, true, refl, sym, ap, subst, List, Option, Some, None, Result, Ok, Err, arith}
use Rattle.std.specs.FinMap.{get}
use Rattle.std.specs.Str.{chars}
use Rattle.cov_outside.specs.Counts.{Rose}
use Rattle.cov_outside.specs.Files.{Files}
use Rattle.cov_outside.specs.Reads.{IsTold}
use Rattle.cov_outside.specs.declared.shelf.Shelf.{Ghosts as ShelfOf}
use Rattle.cov_outside.specs.declared.sink.Sink.{Ghosts as SinkOf}
use Rattle.cov_outside.specs.declared.sink.SinkError.TheVariants as sink_error
use Rattle.cov_outside.specs.declared.source.Source.{Ghosts as SourceOf}
use Rattle.cov_contexts.specs.declared.plugins.Plugin.{Ghosts as PluginOf}
use Rattle.cov_data.specs.DataSet.{DataSet}
use Rattle.cov_exclude.specs.declared.maker.Maker.{Ghosts as MakerOf}
use Rattle.cov_exclude.specs.declared.patterns.PatternError.TheVariants as pattern_error
use Rattle.cov_measure.specs.Measures.{Streams}
use Rattle.cov_programs.specs.Laws.{Counting, IsTelling}
use Rattle.cov_programs.specs.Objects.{Moves}
use Rattle.cov_run.specs.Loading.{told_by}
use Rattle.cov_run.specs.Loads.{LoadsTo}
use Rattle.cov_step.specs.Calls.{Call, spells, checks, reads, puts, opens, lists, loads, saves, removes, makes, writes, crosses, measures, tries, tests, selects, judges, says, Answer, AfterImport, came, not_imported, starved, Selection, Judged}
use Rattle.cov_step.specs.Objects.{on_grammar, on_shelf, on_vault, on_maker, on_err, Saying}
use Rattle.cov_streams.specs.Retests.{SelectedAs, JudgedAs}
use Rattle.cov_streams.specs.Suites.{tested_by}
use Rattle.cov_suite.specs.declared.results.SuiteError.{SuiteError}
use Rattle.cov_suite.specs.declared.results.SuiteError.TheVariants as suite_error
use Rattle.cov_suite.specs.Meant.{SuiteOf}
use Rattle.cov_suite.specs.Results.{import_of}
use Rattle.cov_suite.specs.Views.{SuiteView}
use Rattle.py_meaning.specs.Modules.{LoadedModule}
use Rattle.cov_step.specs.Promises.{Object, blamed, is_hungry, keeps}
use Rattle.cov_step.proofs.Faults.{shelf-later, shelf-rose, shelf-alone, vault-later, vault-rose, vault-alone, maker-later, maker-rose, maker-alone, grammar-alone, err-alone}
use Rattle.cov_step.proofs.Kept.{shelf-kept, vault-tells, vault-kept}
use Rattle.cov_streams.specs.Objects.{on_run}
use Rattle.cov_vault.specs.Answers.{IsListed, IsLoaded, IsSaved}
use Rattle.cov_vault.specs.Contents.{Contents}
use Rattle.cov_vault.specs.declared.vault.Content.TheVariants as stored
use Rattle.cov_vault.specs.declared.vault.Vault.{Ghosts as VaultOf}
use Rattle.cov_vault.specs.declared.vault.VaultError.{VaultError}
use Rattle.cov_vault.specs.declared.vault.VaultError.TheVariants as vault_error
use Rattle.cov_words.specs.Values.{Word}
use Rattle.py_builtins.specs.declared.fault.RunFault.TheVariants as run_fault
use Rattle.py_machine.specs.declared.engine.Engine.{Ghosts as EngineOf}
use Rattle.cov_complete_laws.specs.Complete.{Lent, on_lent, NoneRose}
use Rattle.cov_complete_laws.proofs.Holding.{Holding, SaysOfImport, Says, told}

-- ---- counts

same-count : {a b : ℕ} → b ≡ a → a ≤ b
same-count {a = a} e = subst (λ n. a ≤ n) (sym e) (omega arith)

first-half : (a b c : ℕ) → b ≤ c → (Rose a c → ⊥) → Rose a b → ⊥
first-half a b c h n (inl less) = n (inl (omega (arith, h, less)))
first-half a b c h n (inr full) = n (inr (omega (arith, h, full)))

second-half : (a b c : ℕ) → a ≤ b → (Rose a c → ⊥) → Rose b c → ⊥
second-half a b c h n (inl less) = n (inl (omega (arith, h, less)))
second-half a b c h n (inr full) = n (inr full)

pub pair : {A B : Type 0} {a b : A} {c d : B} → a ≡ b → c ≡ d → ◌≡◌ {A = A × B} (a, c) (b, d)
pair {b = b} {c = c} e f = ap (λ x. (x, c)) e ∙ ap (λ y. (b, y)) f

-- ---- whom nobody blames

none-of : (b : Option Object) → ((o : Object) → b ≡ Some o → ⊥) → b ≡ None
none-of None h = refl
none-of (Some o) h = absurd (h o refl)

shelf-fair : {H : Type 0} (shelf : ShelfOf H) (u : H) (call : Call) (x : Answer call) (v : H) → on_shelf shelf u call x v → ¬ (Rose (shelf.faults u) (shelf.faults v)) → blamed call x ≡ None
shelf-fair shelf u call x v m n = none-of (blamed call x) (λ o e. n (shelf-rose shelf u call x v m (e ∙ ap Some (shelf-alone shelf u call x v o m e))))

vault-fair : {V : Type 0} (vault : VaultOf V) (u : V) (call : Call) (x : Answer call) (v : V) → on_vault vault u call x v → ¬ (Rose (vault.faults u) (vault.faults v)) → blamed call x ≡ None
vault-fair vault u call x v m n = none-of (blamed call x) (λ o e. n (vault-rose vault u call x v m (e ∙ ap Some (vault-alone vault u call x v o m e))))

maker-fair : {M : Type 0} (maker : MakerOf M) (u : M) (call : Call) (x : Answer call) (v : M) → on_maker maker u call x v → ¬ (Rose (maker.sizes u) (maker.sizes v)) → blamed call x ≡ None
maker-fair maker u call x v m n = none-of (blamed call x) (λ o e. n (maker-rose maker u call x v m (e ∙ ap Some (maker-alone maker u call x v o m e))))

grammar-fair : (u : Unit {0}) (call : Call) (x : Answer call) (v : Unit {0}) → on_grammar u call x v → blamed call x ≡ None
grammar-fair u call x v m = none-of (blamed call x) (λ o e. grammar-alone u call x v o m e)

err-fair : {E : Type 0} (err : SinkOf E) (u : Saying E) (call : Call) (x : Answer call) (v : Saying E) → on_err err u call x v → blamed call x ≡ None
err-fair err u call x v m = none-of (blamed call x) (λ o e. err-alone err u call x v o m e)

-- ---- what they say

grammar-says : (t : Holding) (u : Unit {0}) (call : Call) (x : Answer call) (v : Unit {0}) → on_grammar u call x v → Says t call x
grammar-says t u (spells words) x v m = m
grammar-says t u (checks bytes) x v m = m.read
grammar-says t u (reads name most) x v m = absurd m
grammar-says t u (puts name bytes) x v m = absurd m
grammar-says t u (opens name script) x v m = absurd m
grammar-says t u lists x v m = absurd m
grammar-says t u (loads name) x v m = absurd m
grammar-says t u (saves name content) x v m = absurd m
grammar-says t u (removes name) x v m = absurd m
grammar-says t u (makes texts) x v m = absurd m
grammar-says t u (writes bytes) x v m = absurd m
grammar-says t u (crosses modules words budget) x v m = absurd m
grammar-says t u (measures asked modules hook) x v m = absurd m
grammar-says t u (tries modules words budget) x v m = absurd m
grammar-says t u (tests asked modules) x v m = absurd m
grammar-says t u (selects budget before after) x v m = absurd m
grammar-says t u (judges budget modules) x v m = absurd m
grammar-says t u (says text) x v m = absurd m

shelf-says : {H : Type 0} (shelf : ShelfOf H) → shelf.tells → (t : Holding) (u : H) (call : Call) (x : Answer call) (v : H) → on_shelf shelf u call x v → t.0 ≡ shelf.files u → Says t call x
shelf-says shelf tells t u (spells words) x v m e = absurd m
shelf-says shelf tells t u (checks bytes) x v m e = m.read
shelf-says shelf tells t u (reads name most) x v m e = subst (λ (f : Files). IsTold (f name) most x) (sym e) (shelf.truthful tells u name most x v m.moved).0
shelf-says shelf tells t u (puts name bytes) x v m e = tt
shelf-says shelf tells t u (opens name script) x v m e = subst (λ (f : Files). LoadsTo (told_by f (chars script)) (chars script) name x) (sym e) (m.told tells)
shelf-says shelf tells t u lists x v m e = absurd m
shelf-says shelf tells t u (loads name) x v m e = absurd m
shelf-says shelf tells t u (saves name content) x v m e = absurd m
shelf-says shelf tells t u (removes name) x v m e = absurd m
shelf-says shelf tells t u (makes texts) x v m e = absurd m
shelf-says shelf tells t u (writes bytes) x v m e = absurd m
shelf-says shelf tells t u (crosses modules words budget) x v m e = absurd m
shelf-says shelf tells t u (measures asked modules hook) x v m e = absurd m
shelf-says shelf tells t u (tries modules words budget) x v m e = absurd m
shelf-says shelf tells t u (tests asked modules) x v m e = absurd m
shelf-says shelf tells t u (selects budget before after) x v m e = absurd m
shelf-says shelf tells t u (judges budget modules) x v m e = absurd m
shelf-says shelf tells t u (says text) x v m e = absurd m

saved-so : {V : Type 0} (vault : VaultOf V) (u : V) (name : Word) (d : DataSet) (x : Option VaultError) (v : V) → vault.tells u → vault.saves u name d x v → x ≡ Some vault_error.NotSchema7 → get (vault.contents u) name ≡ Some stored.NotSchema7
saved-so vault u name d x v tells m is = (subst (λ r. IsSaved (vault.contents u) name d r (vault.contents v)) is (vault.saves_whole u name d x v tells m).1).0

vault-says : {V : Type 0} (vault : VaultOf V) (t : Holding) (u : V) (call : Call) (x : Answer call) (v : V) → on_vault vault u call x v → vault.tells u → t.1 ≡ vault.contents u → Says t call x
vault-says vault t u (spells words) x v m tells e = absurd m
vault-says vault t u (checks bytes) x v m tells e = absurd m
vault-says vault t u (reads name most) x v m tells e = absurd m
vault-says vault t u (puts name bytes) x v m tells e = absurd m
vault-says vault t u (opens name script) x v m tells e = absurd m
vault-says vault t u lists x v m tells e = subst (λ (c : Contents). IsListed c x) (sym e) (vault.lists_truly u x v tells m.moved).1
vault-says vault t u (loads name) x v m tells e = subst (λ (c : Contents). IsLoaded (get c name) x) (sym e) (vault.loads_truly u name x v tells m.moved).1
vault-says vault t u (saves name content) x v m tells e = (λ is. subst (λ (c : Contents). get c name ≡ Some stored.NotSchema7) (sym e) (saved-so vault u name content x v tells m.moved is), m.not_bad_row)
vault-says vault t u (removes name) x v m tells e = tt
vault-says vault t u (makes texts) x v m tells e = absurd m
vault-says vault t u (writes bytes) x v m tells e = absurd m
vault-says vault t u (crosses modules words budget) x v m tells e = absurd m
vault-says vault t u (measures asked modules hook) x v m tells e = absurd m
vault-says vault t u (tries modules words budget) x v m tells e = absurd m
vault-says vault t u (tests asked modules) x v m tells e = absurd m
vault-says vault t u (selects budget before after) x v m tells e = absurd m
vault-says vault t u (judges budget modules) x v m tells e = absurd m
vault-says vault t u (says text) x v m tells e = absurd m

maker-says : {M : Type 0} (maker : MakerOf M) (t : Holding) (u : M) (call : Call) (x : Answer call) (v : M) → on_maker maker u call x v → Says t call x
maker-says maker t u (spells words) x v m = absurd m
maker-says maker t u (checks bytes) x v m = absurd m
maker-says maker t u (reads name most) x v m = absurd m
maker-says maker t u (puts name bytes) x v m = absurd m
maker-says maker t u (opens name script) x v m = absurd m
maker-says maker t u lists x v m = absurd m
maker-says maker t u (loads name) x v m = absurd m
maker-says maker t u (saves name content) x v m = absurd m
maker-says maker t u (removes name) x v m = absurd m
maker-says maker t u (makes texts) x v m = λ i is. (m.refused (pattern_error.BadPattern i) is).1
maker-says maker t u (writes bytes) x v m = absurd m
maker-says maker t u (crosses modules words budget) x v m = absurd m
maker-says maker t u (measures asked modules hook) x v m = absurd m
maker-says maker t u (tries modules words budget) x v m = absurd m
maker-says maker t u (tests asked modules) x v m = absurd m
maker-says maker t u (selects budget before after) x v m = absurd m
maker-says maker t u (judges budget modules) x v m = absurd m
maker-says maker t u (says text) x v m = absurd m

err-says : {E : Type 0} (err : SinkOf E) (t : Holding) (u : Saying E) (call : Call) (x : Answer call) (v : Saying E) → on_err err u call x v → Says t call x
err-says err t u (spells words) x v m = absurd m
err-says err t u (checks bytes) x v m = absurd m
err-says err t u (reads name most) x v m = absurd m
err-says err t u (puts name bytes) x v m = absurd m
err-says err t u (opens name script) x v m = absurd m
err-says err t u lists x v m = absurd m
err-says err t u (loads name) x v m = absurd m
err-says err t u (saves name content) x v m = absurd m
err-says err t u (removes name) x v m = absurd m
err-says err t u (makes texts) x v m = absurd m
err-says err t u (writes bytes) x v m = absurd m
err-says err t u (crosses modules words budget) x v m = absurd m
err-says err t u (measures asked modules hook) x v m = absurd m
err-says err t u (tries modules words budget) x v m = absurd m
err-says err t u (tests asked modules) x v m = absurd m
err-says err t u (selects budget before after) x v m = absurd m
err-says err t u (judges budget modules) x v m = absurd m
err-says err t u (says text) x v m = tt

-- tests tell whether their import finished
import-said : {P : Type 0} (plugin : PluginOf P) (ms : List LoadedModule) (arcs : Bool) (context : Word) (budget : ℕ) (old : List P) (said : Result SuiteView SuiteError) (new : List P) → SuiteOf plugin ms arcs context budget old said new
    → SaysOfImport (import_of ms budget).outcome (tested_by said)
import-said plugin ms arcs context budget old (Ok s) new h = h.ran.imports
import-said plugin ms arcs context budget old (Err suite_error.NotImported) new h = (h.not_imported refl).stops
import-said plugin ms arcs context budget old (Err suite_error.NoMemory) new h = tt

selection-said : (budget : ℕ) (old new : List LoadedModule) (x : AfterImport Selection) → SelectedAs budget old new x → SaysOfImport (import_of old budget).outcome x
selection-said budget old new (came s) h = h.imports
selection-said budget old new not_imported h = h
selection-said budget old new starved h = tt

verdicts-said : (budget : ℕ) (ms : List LoadedModule) (x : AfterImport (List Judged)) → JudgedAs budget ms x → SaysOfImport (import_of ms budget).outcome x
verdicts-said budget ms (came js) h = h.1.imports
verdicts-said budget ms not_imported h = h
verdicts-said budget ms starved h = tt

module _ {I O P G : Type 0} (source : SourceOf I) (sink : SinkOf O) (plugin : PluginOf P) (engine : EngineOf G) where
  run-says : (t : Holding) (u : Streams I O P G) (call : Call) (x : Answer call) (v : Streams I O P G) → on_run source sink plugin engine u call x v → Says t call x
  run-says t u (spells words) x v m = absurd m
  run-says t u (checks bytes) x v m = absurd m
  run-says t u (reads name most) x v m = absurd m
  run-says t u (puts name bytes) x v m = absurd m
  run-says t u (opens name script) x v m = absurd m
  run-says t u lists x v m = absurd m
  run-says t u (loads name) x v m = absurd m
  run-says t u (saves name content) x v m = absurd m
  run-says t u (removes name) x v m = absurd m
  run-says t u (makes texts) x v m = absurd m
  run-says t u (writes bytes) x v m = tt
  run-says t u (crosses modules words budget) x v m = tt
  run-says t u (measures asked modules hook) x v m = tt
  run-says t u (tries modules words budget) x v m = tt
  run-says t u (tests asked modules) x v m =
      subst (SaysOfImport (import_of modules asked.budget).outcome) (sym m.ran.is)
      (import-said plugin modules asked.arcs asked.context asked.budget u.plugins m.ran.said v.plugins m.ran.suite)
  run-says t u (selects budget before after) x v m = selection-said budget before after x m.selected
  run-says t u (judges budget modules) x v m = verdicts-said budget modules x m.judged
  run-says t u (says text) x v m = absurd m

  input-later : (u : Streams I O P G) (call : Call) (x : Answer call) (v : Streams I O P G) → on_run source sink plugin engine u call x v → source.faults u.input ≤ source.faults v.input
  input-later u (spells words) x v m = absurd m
  input-later u (checks bytes) x v m = absurd m
  input-later u (reads name most) x v m = absurd m
  input-later u (puts name bytes) x v m = absurd m
  input-later u (opens name script) x v m = absurd m
  input-later u lists x v m = absurd m
  input-later u (loads name) x v m = absurd m
  input-later u (saves name content) x v m = absurd m
  input-later u (removes name) x v m = absurd m
  input-later u (makes texts) x v m = absurd m
  input-later u (writes bytes) x v m = same-count (ap (λ (s : Streams I O P G). source.faults s.input) m.same)
  input-later u (crosses modules words budget) x v m = m.run.reads
  input-later u (measures asked modules hook) x v m = m.run.reads
  input-later u (tries modules words budget) x v m = same-count (ap (λ (s : Streams I O P G). source.faults s.input) m.same)
  input-later u (tests asked modules) x v m = same-count (ap (λ (s : Streams I O P G). source.faults s.input) m.same)
  input-later u (selects budget before after) x v m = same-count (ap (λ (s : Streams I O P G). source.faults s.input) m.same)
  input-later u (judges budget modules) x v m = same-count (ap (λ (s : Streams I O P G). source.faults s.input) m.same)
  input-later u (says text) x v m = absurd m

  out-later : (u : Streams I O P G) (call : Call) (x : Answer call) (v : Streams I O P G) → on_run source sink plugin engine u call x v → sink.faults u.out ≤ sink.faults v.out
  out-later u (spells words) x v m = absurd m
  out-later u (checks bytes) x v m = absurd m
  out-later u (reads name most) x v m = absurd m
  out-later u (puts name bytes) x v m = absurd m
  out-later u (opens name script) x v m = absurd m
  out-later u lists x v m = absurd m
  out-later u (loads name) x v m = absurd m
  out-later u (saves name content) x v m = absurd m
  out-later u (removes name) x v m = absurd m
  out-later u (makes texts) x v m = absurd m
  out-later u (writes bytes) x v m = m.wrote.count
  out-later u (crosses modules words budget) x v m = m.run.writes
  out-later u (measures asked modules hook) x v m = m.run.writes
  out-later u (tries modules words budget) x v m = same-count (ap (λ (s : Streams I O P G). sink.faults s.out) m.same)
  out-later u (tests asked modules) x v m = same-count (ap (λ (s : Streams I O P G). sink.faults s.out) m.same)
  out-later u (selects budget before after) x v m = same-count (ap (λ (s : Streams I O P G). sink.faults s.out) m.same)
  out-later u (judges budget modules) x v m = same-count (ap (λ (s : Streams I O P G). sink.faults s.out) m.same)
  out-later u (says text) x v m = absurd m

  run-fair : (u : Streams I O P G) (call : Call) (x : Answer call) (v : Streams I O P G) → on_run source sink plugin engine u call x v → ¬ (Rose (source.faults u.input) (source.faults v.input)) → ¬ (Rose (sink.faults u.out) (sink.faults v.out)) → blamed call x ≡ None
  run-fair u (spells words) x v m i o = absurd m
  run-fair u (checks bytes) x v m i o = absurd m
  run-fair u (reads name most) x v m i o = absurd m
  run-fair u (puts name bytes) x v m i o = absurd m
  run-fair u (opens name script) x v m i o = absurd m
  run-fair u lists x v m i o = absurd m
  run-fair u (loads name) x v m i o = absurd m
  run-fair u (saves name content) x v m i o = absurd m
  run-fair u (removes name) x v m i o = absurd m
  run-fair u (makes texts) x v m i o = absurd m
  run-fair u (writes bytes) None v m i o = refl
  run-fair u (writes bytes) (Some sink_error.Failed) v m i o = absurd (o (m.wrote.failed refl))
  run-fair u (writes bytes) (Some sink_error.NoMemory) v m i o = refl
  run-fair u (crosses modules words budget) (Ok ran) v m i o = refl
  run-fair u (crosses modules words budget) (Err run_fault.ReadFault) v m i o = absurd (i (m.run.read_fault refl))
  run-fair u (crosses modules words budget) (Err run_fault.WriteFault) v m i o = absurd (o (m.run.write_fault refl))
  run-fair u (crosses modules words budget) (Err run_fault.NoMemory) v m i o = refl
  run-fair u (measures asked modules hook) (Ok ran) v m i o = refl
  run-fair u (measures asked modules hook) (Err run_fault.ReadFault) v m i o = absurd (i (m.run.read_fault refl))
  run-fair u (measures asked modules hook) (Err run_fault.WriteFault) v m i o = absurd (o (m.run.write_fault refl))
  run-fair u (measures asked modules hook) (Err run_fault.NoMemory) v m i o = refl
  run-fair u (tries modules words budget) x v m i o = refl
  run-fair u (tests asked modules) x v m i o = refl
  run-fair u (selects budget before after) x v m i o = refl
  run-fair u (judges budget modules) x v m i o = refl
  run-fair u (says text) x v m i o = absurd m

-- ---- all of them

module _ {H V M I O P G E : Type 0} (shelf : ShelfOf H) (vault : VaultOf V) (maker : MakerOf M) (source : SourceOf I) (sink : SinkOf O) (plugin : PluginOf P) (engine : EngineOf G) (err : SinkOf E) where
  abbrev pub World : Type 0
  World = Lent H V M I O P G × Saying E

  abbrev pub whole : Moves Call Answer World
  whole = on_lent shelf vault maker source sink plugin engine err

  -- what shelf and vault hold
  abbrev pub held : World → Holding
  held w = (shelf.files w.0.0.0.0.1, vault.contents w.0.0.0.1)

  -- no count falls, and a vault that tells goes on telling
  pub record IsLater (u v : World) : Type 0 where
    pub files : shelf.faults u.0.0.0.0.1 ≤ shelf.faults v.0.0.0.0.1
    pub contents : vault.faults u.0.0.0.1 ≤ vault.faults v.0.0.0.1
    pub patterns : maker.sizes u.0.0.1 ≤ maker.sizes v.0.0.1
    pub input : source.faults u.0.1.input ≤ source.faults v.0.1.input
    pub out : sink.faults u.0.1.out ≤ sink.faults v.0.1.out
    pub telling : vault.tells u.0.0.0.1 → vault.tells v.0.0.0.1

  abbrev pub Unraised : World → World → Type 0
  Unraised u v = vault.tells u.0.0.0.1 × NoneRose shelf vault maker source sink u.0 v.0

  pub onward : {u v w : World} → IsLater u v → IsLater v w → IsLater u w
  onward a b = record {
    files = omega (arith, a.files, b.files);
    contents = omega (arith, a.contents, b.contents);
    patterns = omega (arith, a.patterns, b.patterns);
    input = omega (arith, a.input, b.input);
    out = omega (arith, a.out, b.out);
    telling = λ t. b.telling (a.telling t);
  }

  pub before : {u v w : World} → IsLater u v → IsLater v w → Unraised u w → Unraised u v
  before {u = u} {v = v} {w = w} a b n = (
    n.0,
    record {
      files = first-half (shelf.faults u.0.0.0.0.1) (shelf.faults v.0.0.0.0.1) (shelf.faults w.0.0.0.0.1) b.files n.1.files;
      contents = first-half (vault.faults u.0.0.0.1) (vault.faults v.0.0.0.1) (vault.faults w.0.0.0.1) b.contents n.1.contents;
      patterns = first-half (maker.sizes u.0.0.1) (maker.sizes v.0.0.1) (maker.sizes w.0.0.1) b.patterns n.1.patterns;
      input = first-half (source.faults u.0.1.input) (source.faults v.0.1.input) (source.faults w.0.1.input) b.input n.1.input;
      out = first-half (sink.faults u.0.1.out) (sink.faults v.0.1.out) (sink.faults w.0.1.out) b.out n.1.out;
    },
  )

  pub after : {u v w : World} → IsLater u v → IsLater v w → Unraised u w → Unraised v w
  after {u = u} {v = v} {w = w} a b n = (
    a.telling n.0,
    record {
      files = second-half (shelf.faults u.0.0.0.0.1) (shelf.faults v.0.0.0.0.1) (shelf.faults w.0.0.0.0.1) a.files n.1.files;
      contents = second-half (vault.faults u.0.0.0.1) (vault.faults v.0.0.0.1) (vault.faults w.0.0.0.1) a.contents n.1.contents;
      patterns = second-half (maker.sizes u.0.0.1) (maker.sizes v.0.0.1) (maker.sizes w.0.0.1) a.patterns n.1.patterns;
      input = second-half (source.faults u.0.1.input) (source.faults v.0.1.input) (source.faults w.0.1.input) a.input n.1.input;
      out = second-half (sink.faults u.0.1.out) (sink.faults v.0.1.out) (sink.faults w.0.1.out) a.out n.1.out;
    },
  )

  abbrev pub counting : Counting World
  counting = record {
    Later = IsLater;
    still = λ w. record { files = omega arith; contents = omega arith; patterns = omega arith; input = omega arith; out = omega arith; telling = λ t. t };
    onward = onward;
    NoneRose = Unraised;
    before = before;
    after = after;
  }

  later-with : (u w : World) → shelf.faults u.0.0.0.0.1 ≤ shelf.faults w.0.0.0.0.1 → vault.faults u.0.0.0.1 ≤ vault.faults w.0.0.0.1 → maker.sizes u.0.0.1 ≤ maker.sizes w.0.0.1
      → source.faults u.0.1.input ≤ source.faults w.0.1.input → sink.faults u.0.1.out ≤ sink.faults w.0.1.out → (vault.tells u.0.0.0.1 → vault.tells w.0.0.0.1) → IsLater u w
  later-with u w a b c d e f = record { files = a; contents = b; patterns = c; input = d; out = e; telling = f }

  reads-same : (u w : World) → w.0.1 ≡ u.0.1 → source.faults u.0.1.input ≤ source.faults w.0.1.input
  reads-same u w e = same-count (ap (λ (s : Streams I O P G). source.faults s.input) e)

  writes-same : (u w : World) → w.0.1 ≡ u.0.1 → sink.faults u.0.1.out ≤ sink.faults w.0.1.out
  writes-same u w e = same-count (ap (λ (s : Streams I O P G). sink.faults s.out) e)

  pub later : (u : World) (call : Call) (x : Answer call) (w : World) → whole u call x w → IsLater u w
  later u call x w (inr (m, a)) =
      later-with u w (same-count (ap (λ t. shelf.faults t.0.0.0.1) a)) (same-count (ap (λ t. vault.faults t.0.0.1) a)) (same-count (ap (λ t. maker.sizes t.0.1) a)) (reads-same u w (ap (λ t. t.1) a)) (writes-same u w (ap (λ t. t.1) a))
      (subst (λ t. vault.tells t) (sym (ap (λ t. t.0.0.1) a)))
  later u call x w (inl (inr (m, a), b)) =
      later-with u w (same-count (ap (λ t. shelf.faults t.0.0.1) a)) (same-count (ap (λ t. vault.faults t.0.1) a)) (same-count (ap (λ t. maker.sizes t.1) a)) (input-later source sink plugin engine u.0.1 call x w.0.1 m) (out-later source sink plugin engine u.0.1 call x w.0.1 m)
      (subst (λ t. vault.tells t) (sym (ap (λ t. t.0.1) a)))
  later u call x w (inl (inl (inr (m, a), b), c)) =
      later-with u w (same-count (ap (λ t. shelf.faults t.0.1) a)) (same-count (ap (λ t. vault.faults t.1) a)) (maker-later maker u.0.0.1 call x w.0.0.1 m) (reads-same u w b) (writes-same u w b)
      (subst (λ t. vault.tells t) (sym (ap (λ t. t.1) a)))
  later u call x w (inl (inl (inl (inr (m, a), b), c), d)) =
      later-with u w (same-count (ap (λ t. shelf.faults t.1) a)) (vault-later vault u.0.0.0.1 call x w.0.0.0.1 m) (same-count (ap maker.sizes b)) (reads-same u w c) (writes-same u w c)
      (vault-tells vault u.0.0.0.1 call x w.0.0.0.1 m)
  later u call x w (inl (inl (inl (inl (inr (m, z), a), b), c), d)) =
      later-with u w (shelf-later shelf u.0.0.0.0.1 call x w.0.0.0.0.1 m) (same-count (ap vault.faults a)) (same-count (ap maker.sizes b)) (reads-same u w c) (writes-same u w c)
      (subst (λ t. vault.tells t) (sym a))
  later u call x w (inl (inl (inl (inl (inl (m, z), a), b), c), d)) =
      later-with u w (same-count (ap shelf.faults z)) (same-count (ap vault.faults a)) (same-count (ap maker.sizes b)) (reads-same u w c) (writes-same u w c)
      (subst (λ t. vault.tells t) (sym a))

  pub fair : (u : World) (call : Call) (x : Answer call) (w : World) → whole u call x w → NoneRose shelf vault maker source sink u.0 w.0 → blamed call x ≡ None
  fair u call x w (inr (m, a)) n = err-fair err u.1 call x w.1 m
  fair u call x w (inl (inr (m, a), b)) n = run-fair source sink plugin engine u.0.1 call x w.0.1 m n.input n.out
  fair u call x w (inl (inl (inr (m, a), b), c)) n = maker-fair maker u.0.0.1 call x w.0.0.1 m n.patterns
  fair u call x w (inl (inl (inl (inr (m, a), b), c), d)) n = vault-fair vault u.0.0.0.1 call x w.0.0.0.1 m n.contents
  fair u call x w (inl (inl (inl (inl (inr (m, z), a), b), c), d)) n = shelf-fair shelf u.0.0.0.0.1 call x w.0.0.0.0.1 m n.files
  fair u call x w (inl (inl (inl (inl (inl (m, z), a), b), c), d)) n = grammar-fair u.0.0.0.0.0 call x w.0.0.0.0.0 m

  module _ (tells : shelf.tells) where
    pub say : (u : World) (call : Call) (x : Answer call) (w : World) → whole u call x w → vault.tells u.0.0.0.1 → Says (held u) call x
    say u call x w (inr (m, a)) k = err-says err (held u) u.1 call x w.1 m
    say u call x w (inl (inr (m, a), b)) k = run-says source sink plugin engine (held u) u.0.1 call x w.0.1 m
    say u call x w (inl (inl (inr (m, a), b), c)) k = maker-says maker (held u) u.0.0.1 call x w.0.0.1 m
    say u call x w (inl (inl (inl (inr (m, a), b), c), d)) k = vault-says vault (held u) u.0.0.0.1 call x w.0.0.0.1 m k refl
    say u call x w (inl (inl (inl (inl (inr (m, z), a), b), c), d)) k = shelf-says shelf tells (held u) u.0.0.0.0.1 call x w.0.0.0.0.1 m refl
    say u call x w (inl (inl (inl (inl (inl (m, z), a), b), c), d)) k = grammar-says (held u) u.0.0.0.0.0 call x w.0.0.0.0.0 m

    pub stay : (u : World) (call : Call) (x : Answer call) (w : World) → whole u call x w → vault.tells u.0.0.0.1 → keeps call x ≡ true → held w ≡ held u
    stay u call x w (inr (m, a)) k e = pair (ap (λ t. shelf.files t.0.0.0.1) a) (ap (λ t. vault.contents t.0.0.1) a)
    stay u call x w (inl (inr (m, a), b)) k e = pair (ap (λ t. shelf.files t.0.0.1) a) (ap (λ t. vault.contents t.0.1) a)
    stay u call x w (inl (inl (inr (m, a), b), c)) k e = pair (ap (λ t. shelf.files t.0.1) a) (ap (λ t. vault.contents t.1) a)
    stay u call x w (inl (inl (inl (inr (m, a), b), c), d)) k e = pair (ap (λ t. shelf.files t.1) a) (vault-kept vault u.0.0.0.1 call x w.0.0.0.1 m k e)
    stay u call x w (inl (inl (inl (inl (inr (m, z), a), b), c), d)) k e = pair (shelf-kept shelf tells u.0.0.0.0.1 call x w.0.0.0.0.1 m e) (ap vault.contents a)
    stay u call x w (inl (inl (inl (inl (inl (m, z), a), b), c), d)) k e = pair (ap shelf.files z) (ap vault.contents a)

    abbrev pub telling : IsTelling whole is_hungry told
    telling = record {
      counting = counting;
      view = held;
      later = later;
      tells = λ u call x w m n h. (record { says_so = say u call x w m n.0; fed = h; fair = fair u call x w m n.1 }, stay u call x w m n.0);
    }
