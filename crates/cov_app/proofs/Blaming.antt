-- A refusal that blames an object raised that object's count; and no count falls.
use Rattle.std.proofs.Common.{◌≡◌, ◌∙◌, ℕ, ◌≤◌, true, false, true≢false, refl, sym, ap, subst, List, Option, Some, None, Result, Ok, Err, arith}
use Rattle.std.specs.Prelude.{nat_eq}
use Rattle.cov_contexts.specs.declared.plugins.Plugin.{Ghosts as PluginOf}
use Rattle.cov_exclude.specs.declared.maker.Maker.{Ghosts as MakerOf}
use Rattle.cov_outside.specs.Counts.{Rose}
use Rattle.cov_outside.specs.declared.shelf.Shelf.{Ghosts as ShelfOf}
use Rattle.cov_outside.specs.declared.sink.Sink.{Ghosts as SinkOf}
use Rattle.cov_outside.specs.declared.sink.SinkError.TheVariants as sink_error
use Rattle.cov_outside.specs.declared.source.Source.{Ghosts as SourceOf}
use Rattle.py_builtins.specs.declared.fault.RunFault.TheVariants as run_fault
use Rattle.py_machine.specs.declared.engine.Engine.{Ghosts as EngineOf}
use Rattle.cov_measure.specs.Measures.{Streams}
use Rattle.cov_programs.specs.Ends.{Follows}
use Rattle.cov_programs.specs.Objects.{Moves, beside}
use Rattle.cov_step.specs.Calls.{Call, spells, checks, reads, puts, opens, lists, loads, saves, removes, makes, writes, crosses, measures, tries, tests, selects, judges, says, Answer, Step, IsNoMemory}
use Rattle.cov_step.specs.Objects.{on_grammar, on_shelf, on_vault, on_maker, on_err, Saying}
use Rattle.cov_step.specs.Promises.{Object, the_input, the_output, the_shelf, the_vault, the_maker, number_of, blame_of, blamed}
use Rattle.cov_step.specs.Step.{step}
use Rattle.cov_step.proofs.Faults.{shelf-later, shelf-rose, shelf-alone, vault-later, vault-rose, vault-alone, maker-later, maker-rose, maker-alone, grammar-alone, err-alone}
use Rattle.cov_step.proofs.Rising.{never-falls, raised, left-later, right-later, left-rose, right-rose, neither}
use Rattle.cov_streams.specs.Objects.{on_run}
use Rattle.cov_vault.specs.declared.vault.Vault.{Ghosts as VaultOf}
use Rattle.cov_why.specs.Answers.{Refusal, PlainWhy}
use Rattle.cov_words.specs.Values.{Word}
use Rattle.cov_app.specs.Objects.{All, on_all, on_command}

some-is : {A : Type 0} {a b : A} → ◌≡◌ {A = Option A} (Some a) (Some b) → a ≡ b
some-is e = cc

none-some : {A : Type 0} {a : A} → ◌≡◌ {A = Option A} None (Some a) → ⊥
none-some e = cc

same-count : {a b : ℕ} → b ≡ a → a ≤ b
same-count {a = a} e = subst (λ n. a ≤ n) (sym e) (omega arith)

-- ---- input, output, plugins and engine

module _ {I O P G : Type 0} (source : SourceOf I) (sink : SinkOf O) (plugin : PluginOf P) (engine : EngineOf G) where
  input-later : (u : Streams I O P G) (call : Call) (x : Answer call) (v : Streams I O P G) → on_run source sink plugin engine u call x v → source.faults u.input ≤ source.faults v.input
  input-later u (spells words) x v m = absurd m
  input-later u (checks bytes) x v m = absurd m
  input-later u (reads name most) x v m = absurd m
  input-later u (puts name bytes) x v m = absurd m
  input-later u (opens name script) x v m = absurd m
  input-later u lists x v m = absurd m
  input-later u (loads name) x v m = absurd m
  input-later u (saves name content) x v m = absurd m
  input-later u (removes name) x v m = absurd m
  input-later u (makes texts) x v m = absurd m
  input-later u (writes bytes) x v m = same-count (ap (λ (s : Streams I O P G). source.faults s.input) m.same)
  input-later u (crosses modules words budget) x v m = m.run.reads
  input-later u (measures asked modules hook) x v m = m.run.reads
  input-later u (tries modules words budget) x v m = same-count (ap (λ (s : Streams I O P G). source.faults s.input) m.same)
  input-later u (tests asked modules) x v m = same-count (ap (λ (s : Streams I O P G). source.faults s.input) m.same)
  input-later u (selects budget before after) x v m = same-count (ap (λ (s : Streams I O P G). source.faults s.input) m.same)
  input-later u (judges budget modules) x v m = same-count (ap (λ (s : Streams I O P G). source.faults s.input) m.same)
  input-later u (says text) x v m = absurd m

  out-later : (u : Streams I O P G) (call : Call) (x : Answer call) (v : Streams I O P G) → on_run source sink plugin engine u call x v → sink.faults u.out ≤ sink.faults v.out
  out-later u (spells words) x v m = absurd m
  out-later u (checks bytes) x v m = absurd m
  out-later u (reads name most) x v m = absurd m
  out-later u (puts name bytes) x v m = absurd m
  out-later u (opens name script) x v m = absurd m
  out-later u lists x v m = absurd m
  out-later u (loads name) x v m = absurd m
  out-later u (saves name content) x v m = absurd m
  out-later u (removes name) x v m = absurd m
  out-later u (makes texts) x v m = absurd m
  out-later u (writes bytes) x v m = m.wrote.count
  out-later u (crosses modules words budget) x v m = m.run.writes
  out-later u (measures asked modules hook) x v m = m.run.writes
  out-later u (tries modules words budget) x v m = same-count (ap (λ (s : Streams I O P G). sink.faults s.out) m.same)
  out-later u (tests asked modules) x v m = same-count (ap (λ (s : Streams I O P G). sink.faults s.out) m.same)
  out-later u (selects budget before after) x v m = same-count (ap (λ (s : Streams I O P G). sink.faults s.out) m.same)
  out-later u (judges budget modules) x v m = same-count (ap (λ (s : Streams I O P G). sink.faults s.out) m.same)
  out-later u (says text) x v m = absurd m

  input-rose : (u : Streams I O P G) (call : Call) (x : Answer call) (v : Streams I O P G) → on_run source sink plugin engine u call x v → blamed call x ≡ Some the_input → Rose (source.faults u.input) (source.faults v.input)
  input-rose u (spells words) x v m e = absurd m
  input-rose u (checks bytes) x v m e = absurd m
  input-rose u (reads name most) x v m e = absurd m
  input-rose u (puts name bytes) x v m e = absurd m
  input-rose u (opens name script) x v m e = absurd m
  input-rose u lists x v m e = absurd m
  input-rose u (loads name) x v m e = absurd m
  input-rose u (saves name content) x v m e = absurd m
  input-rose u (removes name) x v m e = absurd m
  input-rose u (makes texts) x v m e = absurd m
  input-rose u (writes bytes) None v m e = absurd (none-some e)
  input-rose u (writes bytes) (Some sink_error.Failed) v m e = absurd (cc)
  input-rose u (writes bytes) (Some sink_error.NoMemory) v m e = absurd (none-some e)
  input-rose u (crosses modules words budget) (Ok ran) v m e = absurd (none-some e)
  input-rose u (crosses modules words budget) (Err run_fault.ReadFault) v m e = m.run.read_fault refl
  input-rose u (crosses modules words budget) (Err run_fault.WriteFault) v m e = absurd (cc)
  input-rose u (crosses modules words budget) (Err run_fault.NoMemory) v m e = absurd (none-some e)
  input-rose u (measures asked modules hook) (Ok ran) v m e = absurd (none-some e)
  input-rose u (measures asked modules hook) (Err run_fault.ReadFault) v m e = m.run.read_fault refl
  input-rose u (measures asked modules hook) (Err run_fault.WriteFault) v m e = absurd (cc)
  input-rose u (measures asked modules hook) (Err run_fault.NoMemory) v m e = absurd (none-some e)
  input-rose u (tries modules words budget) x v m e = absurd (none-some e)
  input-rose u (tests asked modules) x v m e = absurd (none-some e)
  input-rose u (selects budget before after) x v m e = absurd (none-some e)
  input-rose u (judges budget modules) x v m e = absurd (none-some e)
  input-rose u (says text) x v m e = absurd m

  out-rose : (u : Streams I O P G) (call : Call) (x : Answer call) (v : Streams I O P G) → on_run source sink plugin engine u call x v → blamed call x ≡ Some the_output → Rose (sink.faults u.out) (sink.faults v.out)
  out-rose u (spells words) x v m e = absurd m
  out-rose u (checks bytes) x v m e = absurd m
  out-rose u (reads name most) x v m e = absurd m
  out-rose u (puts name bytes) x v m e = absurd m
  out-rose u (opens name script) x v m e = absurd m
  out-rose u lists x v m e = absurd m
  out-rose u (loads name) x v m e = absurd m
  out-rose u (saves name content) x v m e = absurd m
  out-rose u (removes name) x v m e = absurd m
  out-rose u (makes texts) x v m e = absurd m
  out-rose u (writes bytes) None v m e = absurd (none-some e)
  out-rose u (writes bytes) (Some sink_error.Failed) v m e = m.wrote.failed refl
  out-rose u (writes bytes) (Some sink_error.NoMemory) v m e = absurd (none-some e)
  out-rose u (crosses modules words budget) (Ok ran) v m e = absurd (none-some e)
  out-rose u (crosses modules words budget) (Err run_fault.ReadFault) v m e = absurd (cc)
  out-rose u (crosses modules words budget) (Err run_fault.WriteFault) v m e = m.run.write_fault refl
  out-rose u (crosses modules words budget) (Err run_fault.NoMemory) v m e = absurd (none-some e)
  out-rose u (measures asked modules hook) (Ok ran) v m e = absurd (none-some e)
  out-rose u (measures asked modules hook) (Err run_fault.ReadFault) v m e = absurd (cc)
  out-rose u (measures asked modules hook) (Err run_fault.WriteFault) v m e = m.run.write_fault refl
  out-rose u (measures asked modules hook) (Err run_fault.NoMemory) v m e = absurd (none-some e)
  out-rose u (tries modules words budget) x v m e = absurd (none-some e)
  out-rose u (tests asked modules) x v m e = absurd (none-some e)
  out-rose u (selects budget before after) x v m e = absurd (none-some e)
  out-rose u (judges budget modules) x v m e = absurd (none-some e)
  out-rose u (says text) x v m e = absurd m

  -- they are nobody else's fault
  run-alone : (o : Object) → ¬ (o ≡ the_input) → ¬ (o ≡ the_output) → (u : Streams I O P G) (call : Call) (x : Answer call) (v : Streams I O P G) → on_run source sink plugin engine u call x v → blamed call x ≡ Some o → ⊥
  run-alone o i j u (spells words) x v m e = m
  run-alone o i j u (checks bytes) x v m e = m
  run-alone o i j u (reads name most) x v m e = m
  run-alone o i j u (puts name bytes) x v m e = m
  run-alone o i j u (opens name script) x v m e = m
  run-alone o i j u lists x v m e = m
  run-alone o i j u (loads name) x v m e = m
  run-alone o i j u (saves name content) x v m e = m
  run-alone o i j u (removes name) x v m e = m
  run-alone o i j u (makes texts) x v m e = m
  run-alone o i j u (writes bytes) None v m e = none-some e
  run-alone o i j u (writes bytes) (Some sink_error.Failed) v m e = j (sym (some-is e))
  run-alone o i j u (writes bytes) (Some sink_error.NoMemory) v m e = none-some e
  run-alone o i j u (crosses modules words budget) (Ok ran) v m e = none-some e
  run-alone o i j u (crosses modules words budget) (Err run_fault.ReadFault) v m e = i (sym (some-is e))
  run-alone o i j u (crosses modules words budget) (Err run_fault.WriteFault) v m e = j (sym (some-is e))
  run-alone o i j u (crosses modules words budget) (Err run_fault.NoMemory) v m e = none-some e
  run-alone o i j u (measures asked modules hook) (Ok ran) v m e = none-some e
  run-alone o i j u (measures asked modules hook) (Err run_fault.ReadFault) v m e = i (sym (some-is e))
  run-alone o i j u (measures asked modules hook) (Err run_fault.WriteFault) v m e = j (sym (some-is e))
  run-alone o i j u (measures asked modules hook) (Err run_fault.NoMemory) v m e = none-some e
  run-alone o i j u (tries modules words budget) x v m e = none-some e
  run-alone o i j u (tests asked modules) x v m e = none-some e
  run-alone o i j u (selects budget before after) x v m e = none-some e
  run-alone o i j u (judges budget modules) x v m e = none-some e
  run-alone o i j u (says text) x v m e = m

-- ---- all objects

self : (o : Object) → nat_eq (number_of o) (number_of o) ≡ true
self the_input = refl
self the_output = refl
self the_shelf = refl
self the_vault = refl
self the_maker = refl

-- objects of other numbers
differ : (o p : Object) → nat_eq (number_of o) (number_of p) ≡ false → ¬ (o ≡ p)
differ o p h e = true≢false (sym (self o) ∙ ap (λ q. nat_eq (number_of o) (number_of q)) e ∙ h)

module _ {H V M I O P G : Type 0} (shelf : ShelfOf H) (vault : VaultOf V) (maker : MakerOf M) (source : SourceOf I) (sink : SinkOf O) (plugin : PluginOf P) (engine : EngineOf G) where
  abbrev two : Moves Call Answer (Unit {0} × H)
  two = beside on_grammar (on_shelf shelf)

  abbrev three : Moves Call Answer ((Unit {0} × H) × V)
  three = beside two (on_vault vault)

  abbrev four : Moves Call Answer (((Unit {0} × H) × V) × M)
  four = beside three (on_maker maker)

  abbrev streaming : Moves Call Answer (Streams I O P G)
  streaming = on_run source sink plugin engine

  abbrev all : Moves Call Answer (All H V M I O P G)
  all = on_all shelf vault maker source sink plugin engine

  -- ---- nobody else is blamed

  no-words : (o : Object) (u : Unit {0}) (call : Call) (x : Answer call) (v : Unit {0}) → on_grammar u call x v → blamed call x ≡ Some o → ⊥
  no-words o u call x v m e = grammar-alone u call x v o m e

  no-shelf : (o : Object) → nat_eq (number_of o) 2 ≡ false → (u : H) (call : Call) (x : Answer call) (v : H) → on_shelf shelf u call x v → blamed call x ≡ Some o → ⊥
  no-shelf o h u call x v m e = differ o the_shelf h (shelf-alone shelf u call x v o m e)

  no-vault : (o : Object) → nat_eq (number_of o) 3 ≡ false → (u : V) (call : Call) (x : Answer call) (v : V) → on_vault vault u call x v → blamed call x ≡ Some o → ⊥
  no-vault o h u call x v m e = differ o the_vault h (vault-alone vault u call x v o m e)

  no-maker : (o : Object) → nat_eq (number_of o) 4 ≡ false → (u : M) (call : Call) (x : Answer call) (v : M) → on_maker maker u call x v → blamed call x ≡ Some o → ⊥
  no-maker o h u call x v m e = differ o the_maker h (maker-alone maker u call x v o m e)

  no-streams : (o : Object) → nat_eq (number_of o) 0 ≡ false → nat_eq (number_of o) 1 ≡ false → (u : Streams I O P G) (call : Call) (x : Answer call) (v : Streams I O P G) → streaming u call x v → blamed call x ≡ Some o → ⊥
  no-streams o i j = run-alone source sink plugin engine o (differ o the_input i) (differ o the_output j)

  no-two : (o : Object) → nat_eq (number_of o) 2 ≡ false → (u : Unit {0} × H) (call : Call) (x : Answer call) (v : Unit {0} × H) → two u call x v → blamed call x ≡ Some o → ⊥
  no-two o h = neither on_grammar (on_shelf shelf) o (no-words o) (no-shelf o h)

  no-three : (o : Object) → nat_eq (number_of o) 2 ≡ false → nat_eq (number_of o) 3 ≡ false → (u : (Unit {0} × H) × V) (call : Call) (x : Answer call) (v : (Unit {0} × H) × V) → three u call x v → blamed call x ≡ Some o → ⊥
  no-three o h v = neither two (on_vault vault) o (no-two o h) (no-vault o v)

  no-four : (o : Object) → nat_eq (number_of o) 2 ≡ false → nat_eq (number_of o) 3 ≡ false → nat_eq (number_of o) 4 ≡ false → (u : ((Unit {0} × H) × V) × M) (call : Call) (x : Answer call) (v : ((Unit {0} × H) × V) × M) → four u call x v → blamed call x ≡ Some o → ⊥
  no-four o h v m = neither three (on_maker maker) o (no-three o h v) (no-maker o m)

  -- ---- `err` beside them, which nobody blames

  module _ {E : Type 0} (err : SinkOf E) where
    abbrev whole : Moves Call Answer (All H V M I O P G × Saying E)
    whole = on_command shelf vault maker source sink plugin engine err

    no-err : (o : Object) (u : Saying E) (call : Call) (x : Answer call) (v : Saying E) → on_err err u call x v → blamed call x ≡ Some o → ⊥
    no-err o u call x v m e = err-alone err u call x v o m e

    -- ---- no count falls

    shelf-on : (u : All H V M I O P G × Saying E) (call : Call) (x : Answer call) (v : All H V M I O P G × Saying E) → whole u call x v → shelf.faults u.0.0.0.0.1 ≤ shelf.faults v.0.0.0.0.1
    shelf-on = left-later all (on_err err) (λ w. shelf.faults w.0.0.0.1)
        (left-later four streaming (λ w. shelf.faults w.0.0.1) (left-later three (on_maker maker) (λ w. shelf.faults w.0.1) (left-later two (on_vault vault) (λ w. shelf.faults w.1) (right-later on_grammar (on_shelf shelf) shelf.faults (shelf-later shelf)))))

    pub shelf-counts : {A : Type 0} (p : Step A) (old new : All H V M I O P G × Saying E) (e : Result A PlainWhy) → Follows whole IsNoMemory p old e new → shelf.faults old.0.0.0.0.1 ≤ shelf.faults new.0.0.0.0.1
    shelf-counts = never-falls whole (λ w. shelf.faults w.0.0.0.0.1) shelf-on

    vault-on : (u : All H V M I O P G × Saying E) (call : Call) (x : Answer call) (v : All H V M I O P G × Saying E) → whole u call x v → vault.faults u.0.0.0.1 ≤ vault.faults v.0.0.0.1
    vault-on = left-later all (on_err err) (λ w. vault.faults w.0.0.1)
        (left-later four streaming (λ w. vault.faults w.0.1) (left-later three (on_maker maker) (λ w. vault.faults w.1) (right-later two (on_vault vault) vault.faults (vault-later vault))))

    pub vault-counts : {A : Type 0} (p : Step A) (old new : All H V M I O P G × Saying E) (e : Result A PlainWhy) → Follows whole IsNoMemory p old e new → vault.faults old.0.0.0.1 ≤ vault.faults new.0.0.0.1
    vault-counts = never-falls whole (λ w. vault.faults w.0.0.0.1) vault-on

    maker-on : (u : All H V M I O P G × Saying E) (call : Call) (x : Answer call) (v : All H V M I O P G × Saying E) → whole u call x v → maker.sizes u.0.0.1 ≤ maker.sizes v.0.0.1
    maker-on = left-later all (on_err err) (λ w. maker.sizes w.0.1) (left-later four streaming (λ w. maker.sizes w.1) (right-later three (on_maker maker) maker.sizes (maker-later maker)))

    pub maker-counts : {A : Type 0} (p : Step A) (old new : All H V M I O P G × Saying E) (e : Result A PlainWhy) → Follows whole IsNoMemory p old e new → maker.sizes old.0.0.1 ≤ maker.sizes new.0.0.1
    maker-counts = never-falls whole (λ w. maker.sizes w.0.0.1) maker-on

    input-on : (u : All H V M I O P G × Saying E) (call : Call) (x : Answer call) (v : All H V M I O P G × Saying E) → whole u call x v → source.faults u.0.1.input ≤ source.faults v.0.1.input
    input-on = left-later all (on_err err) (λ w. source.faults w.1.input) (right-later four streaming (λ s. source.faults s.input) (input-later source sink plugin engine))

    pub input-counts : {A : Type 0} (p : Step A) (old new : All H V M I O P G × Saying E) (e : Result A PlainWhy) → Follows whole IsNoMemory p old e new → source.faults old.0.1.input ≤ source.faults new.0.1.input
    input-counts = never-falls whole (λ w. source.faults w.0.1.input) input-on

    out-on : (u : All H V M I O P G × Saying E) (call : Call) (x : Answer call) (v : All H V M I O P G × Saying E) → whole u call x v → sink.faults u.0.1.out ≤ sink.faults v.0.1.out
    out-on = left-later all (on_err err) (λ w. sink.faults w.1.out) (right-later four streaming (λ s. sink.faults s.out) (out-later source sink plugin engine))

    pub out-counts : {A : Type 0} (p : Step A) (old new : All H V M I O P G × Saying E) (e : Result A PlainWhy) → Follows whole IsNoMemory p old e new → sink.faults old.0.1.out ≤ sink.faults new.0.1.out
    out-counts = never-falls whole (λ w. sink.faults w.0.1.out) out-on

    -- ---- whose count rose

    pub shelf-raised : (r : Refusal) → blame_of r ≡ Some the_shelf → (words : List Word) (old new : All H V M I O P G × Saying E) → Follows whole IsNoMemory (step words) old (Err (Err r)) new → Rose (shelf.faults old.0.0.0.0.1) (shelf.faults new.0.0.0.0.1)
    shelf-raised = raised whole (λ w. shelf.faults w.0.0.0.0.1) the_shelf
        shelf-on
        (left-rose all (on_err err) the_shelf (λ w. shelf.faults w.0.0.0.1)
        (left-rose four streaming the_shelf (λ w. shelf.faults w.0.0.1) (left-rose three (on_maker maker) the_shelf (λ w. shelf.faults w.0.1) (left-rose two (on_vault vault) the_shelf (λ w. shelf.faults w.1) (right-rose on_grammar (on_shelf shelf) the_shelf shelf.faults (shelf-rose shelf) (no-words the_shelf)) (no-vault the_shelf refl)) (no-maker the_shelf refl)) (no-streams the_shelf refl refl)) (no-err the_shelf))

    pub vault-raised : (r : Refusal) → blame_of r ≡ Some the_vault → (words : List Word) (old new : All H V M I O P G × Saying E) → Follows whole IsNoMemory (step words) old (Err (Err r)) new → Rose (vault.faults old.0.0.0.1) (vault.faults new.0.0.0.1)
    vault-raised = raised whole (λ w. vault.faults w.0.0.0.1) the_vault
        vault-on
        (left-rose all (on_err err) the_vault (λ w. vault.faults w.0.0.1)
        (left-rose four streaming the_vault (λ w. vault.faults w.0.1) (left-rose three (on_maker maker) the_vault (λ w. vault.faults w.1) (right-rose two (on_vault vault) the_vault vault.faults (vault-rose vault) (no-two the_vault refl)) (no-maker the_vault refl)) (no-streams the_vault refl refl)) (no-err the_vault))

    pub maker-raised : (r : Refusal) → blame_of r ≡ Some the_maker → (words : List Word) (old new : All H V M I O P G × Saying E) → Follows whole IsNoMemory (step words) old (Err (Err r)) new → Rose (maker.sizes old.0.0.1) (maker.sizes new.0.0.1)
    maker-raised = raised whole (λ w. maker.sizes w.0.0.1) the_maker
        maker-on
        (left-rose all (on_err err) the_maker (λ w. maker.sizes w.0.1) (left-rose four streaming the_maker (λ w. maker.sizes w.1) (right-rose three (on_maker maker) the_maker maker.sizes (maker-rose maker) (no-three the_maker refl refl)) (no-streams the_maker refl refl)) (no-err the_maker))

    pub input-raised : (r : Refusal) → blame_of r ≡ Some the_input → (words : List Word) (old new : All H V M I O P G × Saying E) → Follows whole IsNoMemory (step words) old (Err (Err r)) new → Rose (source.faults old.0.1.input) (source.faults new.0.1.input)
    input-raised = raised whole (λ w. source.faults w.0.1.input) the_input
        input-on
        (left-rose all (on_err err) the_input (λ w. source.faults w.1.input) (right-rose four streaming the_input (λ s. source.faults s.input) (input-rose source sink plugin engine) (no-four the_input refl refl refl)) (no-err the_input))

    pub out-raised : (r : Refusal) → blame_of r ≡ Some the_output → (words : List Word) (old new : All H V M I O P G × Saying E) → Follows whole IsNoMemory (step words) old (Err (Err r)) new → Rose (sink.faults old.0.1.out) (sink.faults new.0.1.out)
    out-raised = raised whole (λ w. sink.faults w.0.1.out) the_output
        out-on
        (left-rose all (on_err err) the_output (λ w. sink.faults w.1.out) (right-rose four streaming the_output (λ s. sink.faults s.out) (out-rose source sink plugin engine) (no-four the_output refl refl refl)) (no-err the_output))
