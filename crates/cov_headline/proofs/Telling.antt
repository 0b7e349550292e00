-- Objects that tell what they hold answer by it, where memory suffices and no fault is counted.
use Rattle.std.proofs.Common.{◌≡◌, ◌≢◌, inl, inr, ℕ, ◌≤◌, false, true≢false, refl, sym, ap, subst, List, [], ◌++◌, Option, Some, None, Result, Ok, Err, arith}
use Rattle.std.specs.Prelude.{option_map}
use Rattle.cov_outside.specs.Counts.{Rose}
use Rattle.cov_outside.specs.declared.shelf.Shelf.{Ghosts as ShelfOf}
use Rattle.cov_outside.specs.declared.sink.Sink.{Ghosts as SinkOf}
use Rattle.cov_outside.specs.declared.sink.SinkError.TheVariants as sink_error
use Rattle.cov_outside.specs.declared.source.Source.{Ghosts as SourceOf}
use Rattle.cov_contexts.specs.declared.plugins.Plugin.{Ghosts as PluginOf}
use Rattle.cov_exclude.specs.declared.maker.Maker.{Ghosts as MakerOf}
use Rattle.py_builtins.specs.declared.fault.RunFault.{RunFault}
use Rattle.py_builtins.specs.declared.fault.RunFault.TheVariants as run_fault
use Rattle.py_machine.specs.Told.{OnInput}
use Rattle.py_machine.specs.declared.engine.Engine.{Ghosts as EngineOf}
use Rattle.py_meaning.specs.Modules.{LoadedModule}
use Rattle.py_meaning.specs.Program.{run_modules}
use Rattle.cov_hook_laws.specs.MeantHooks.{MeantHook}
use Rattle.cov_measure.specs.Measures.{Streams, MeasuredAs, MeasureOf, sources_of}
use Rattle.cov_measure.specs.Measuring.{HasRunSteps}
use Rattle.cov_measure.specs.Requests.{Asked}
use Rattle.cov_measure_laws.specs.Meant.{tree_plan}
use Rattle.cov_programs.specs.Ends.{Follows}
use Rattle.cov_programs.specs.Laws.{Counting, IsTelling, IsFed, nothing_wants}
use Rattle.cov_programs.specs.Objects.{Moves}
use Rattle.cov_programs.proofs.Telling.{told-of}
use Rattle.cov_step.specs.Calls.{Call, spells, checks, reads, puts, opens, lists, loads, saves, removes, makes, writes, crosses, measures, tries, tests, selects, judges, says, Answer, Ran, Answered, IsNoMemory}
use Rattle.cov_step.specs.Objects.{on_grammar, on_shelf, on_vault, on_maker, on_err, Saying, failed}
use Rattle.cov_step.specs.Promises.{is_hungry}
use Rattle.cov_step.specs.Step.{step}
use Rattle.cov_step.proofs.Faults.{shelf-later, vault-later, maker-later}
use Rattle.cov_step.proofs.Kept.{vault-tells}
use Rattle.cov_step.proofs.Yielding.{law_of_want}
use Rattle.cov_streams.specs.Objects.{on_run}
use Rattle.cov_streams.specs.Runs.{request_of, hook_meant, ended_of, arcs_asked}
use Rattle.cov_vault.specs.declared.vault.Vault.{Ghosts as VaultOf}
use Rattle.cov_why.specs.Answers.{PlainWhy}
use Rattle.cov_words.specs.Values.{Word}
use Rattle.cov_headline.specs.Told.{Lent, on_lent, Held, held, RanAs, tells, AllTell, NoneRose}

-- ---- counts

same-count : {a b : ℕ} → b ≡ a → a ≤ b
same-count {a = a} e = subst (λ n. a ≤ n) (sym e) (omega arith)

first-half : (a b c : ℕ) → b ≤ c → (Rose a c → ⊥) → Rose a b → ⊥
first-half a b c h n (inl less) = n (inl (omega (arith, h, less)))
first-half a b c h n (inr full) = n (inr (omega (arith, h, full)))

second-half : (a b c : ℕ) → a ≤ b → (Rose a c → ⊥) → Rose b c → ⊥
second-half a b c h n (inl less) = n (inl (omega (arith, h, less)))
second-half a b c h n (inr full) = n (inr full)

module _ {H V M I O P G E : Type 0} (shelf : ShelfOf H) (vault : VaultOf V) (maker : MakerOf M) (source : SourceOf I) (sink : SinkOf O) (plugin : PluginOf P) (engine : EngineOf G) (err : SinkOf E) where
  abbrev World : Type 0
  World = Lent H V M I O P G E

  -- no count falls, and a vault that tells goes on telling
  record IsLater (u v : World) : Type 0 where
    files : shelf.faults u.0.0.0.0.1 ≤ shelf.faults v.0.0.0.0.1
    contents : vault.faults u.0.0.0.1 ≤ vault.faults v.0.0.0.1
    patterns : maker.sizes u.0.0.1 ≤ maker.sizes v.0.0.1
    input : source.faults u.0.1.input ≤ source.faults v.0.1.input
    out : sink.faults u.0.1.out ≤ sink.faults v.0.1.out
    said : err.faults u.1.sink ≤ err.faults v.1.sink
    telling : vault.tells u.0.0.0.1 → vault.tells v.0.0.0.1

  still : (w : World) → IsLater w w
  still w = record {
    files = omega arith;
    contents = omega arith;
    patterns = omega arith;
    input = omega arith;
    out = omega arith;
    said = omega arith;
    telling = λ t. t;
  }

  onward : {u v w : World} → IsLater u v → IsLater v w → IsLater u w
  onward a b = record {
    files = omega (arith, a.files, b.files);
    contents = omega (arith, a.contents, b.contents);
    patterns = omega (arith, a.patterns, b.patterns);
    input = omega (arith, a.input, b.input);
    out = omega (arith, a.out, b.out);
    said = omega (arith, a.said, b.said);
    telling = λ t. b.telling (a.telling t);
  }

  abbrev None_rose : World → World → Type 0
  None_rose u v = vault.tells u.0.0.0.1 × NoneRose shelf vault maker source sink err u v

  before : {u v w : World} → IsLater u v → IsLater v w → None_rose u w → None_rose u v
  before {u = u} {v = v} {w = w} a b n = (
    n.0,
    record {
      files = first-half (shelf.faults u.0.0.0.0.1) (shelf.faults v.0.0.0.0.1) (shelf.faults w.0.0.0.0.1) b.files n.1.files;
      contents = first-half (vault.faults u.0.0.0.1) (vault.faults v.0.0.0.1) (vault.faults w.0.0.0.1) b.contents n.1.contents;
      patterns = first-half (maker.sizes u.0.0.1) (maker.sizes v.0.0.1) (maker.sizes w.0.0.1) b.patterns n.1.patterns;
      input = first-half (source.faults u.0.1.input) (source.faults v.0.1.input) (source.faults w.0.1.input) b.input n.1.input;
      out = first-half (sink.faults u.0.1.out) (sink.faults v.0.1.out) (sink.faults w.0.1.out) b.out n.1.out;
      said = first-half (err.faults u.1.sink) (err.faults v.1.sink) (err.faults w.1.sink) b.said n.1.said;
    },
  )

  after : {u v w : World} → IsLater u v → IsLater v w → None_rose u w → None_rose v w
  after {u = u} {v = v} {w = w} a b n = (
    a.telling n.0,
    record {
      files = second-half (shelf.faults u.0.0.0.0.1) (shelf.faults v.0.0.0.0.1) (shelf.faults w.0.0.0.0.1) a.files n.1.files;
      contents = second-half (vault.faults u.0.0.0.1) (vault.faults v.0.0.0.1) (vault.faults w.0.0.0.1) a.contents n.1.contents;
      patterns = second-half (maker.sizes u.0.0.1) (maker.sizes v.0.0.1) (maker.sizes w.0.0.1) a.patterns n.1.patterns;
      input = second-half (source.faults u.0.1.input) (source.faults v.0.1.input) (source.faults w.0.1.input) a.input n.1.input;
      out = second-half (sink.faults u.0.1.out) (sink.faults v.0.1.out) (sink.faults w.0.1.out) a.out n.1.out;
      said = second-half (err.faults u.1.sink) (err.faults v.1.sink) (err.faults w.1.sink) a.said n.1.said;
    },
  )

  abbrev counting : Counting World
  counting = record { Later = IsLater; still = still; onward = onward; NoneRose = None_rose; before = before; after = after }

  -- ---- counts of the streams, and of `err`

  record StreamsLater (u v : Streams I O P G) : Type 0 where
    input : source.faults u.input ≤ source.faults v.input
    out : sink.faults u.out ≤ sink.faults v.out

  same-streams : (u v : Streams I O P G) → v ≡ u → StreamsLater u v
  same-streams u v e = record { input = same-count (ap (λ (s : Streams I O P G). source.faults s.input) e); out = same-count (ap (λ (s : Streams I O P G). sink.faults s.out) e) }

  streams-later : (u : Streams I O P G) (call : Call) (x : Answer call) (v : Streams I O P G) → on_run source sink plugin engine u call x v → StreamsLater u v
  streams-later u (spells words) x v m = absurd m
  streams-later u (checks bytes) x v m = absurd m
  streams-later u (reads name most) x v m = absurd m
  streams-later u (puts name bytes) x v m = absurd m
  streams-later u (opens name script) x v m = absurd m
  streams-later u lists x v m = absurd m
  streams-later u (loads name) x v m = absurd m
  streams-later u (saves name content) x v m = absurd m
  streams-later u (removes name) x v m = absurd m
  streams-later u (makes texts) x v m = absurd m
  streams-later u (writes bytes) x v m = record { input = same-count (ap (λ (s : Streams I O P G). source.faults s.input) m.same); out = m.wrote.count }
  streams-later u (crosses modules words budget) x v m = record { input = m.run.reads; out = m.run.writes }
  streams-later u (measures asked modules hook) x v m = record { input = m.run.reads; out = m.run.writes }
  streams-later u (tries modules words budget) x v m = same-streams u v m.same
  streams-later u (tests asked modules) x v m = record { input = same-count (ap (λ (s : Streams I O P G). source.faults s.input) m.same); out = same-count (ap (λ (s : Streams I O P G). sink.faults s.out) m.same) }
  streams-later u (selects budget before after) x v m = same-streams u v m.same
  streams-later u (judges budget modules) x v m = same-streams u v m.same
  streams-later u (says text) x v m = absurd m

  err-later : (u : Saying E) (call : Call) (x : Answer call) (v : Saying E) → on_err err u call x v → err.faults u.sink ≤ err.faults v.sink
  err-later u (spells words) x v m = absurd m
  err-later u (checks bytes) x v m = absurd m
  err-later u (reads name most) x v m = absurd m
  err-later u (puts name bytes) x v m = absurd m
  err-later u (opens name script) x v m = absurd m
  err-later u lists x v m = absurd m
  err-later u (loads name) x v m = absurd m
  err-later u (saves name content) x v m = absurd m
  err-later u (removes name) x v m = absurd m
  err-later u (makes texts) x v m = absurd m
  err-later u (writes bytes) x v m = absurd m
  err-later u (crosses modules words budget) x v m = absurd m
  err-later u (measures asked modules hook) x v m = absurd m
  err-later u (tries modules words budget) x v m = absurd m
  err-later u (tests asked modules) x v m = absurd m
  err-later u (selects budget before after) x v m = absurd m
  err-later u (judges budget modules) x v m = absurd m
  err-later u (says text) x v m = m.count

  -- a state, and one that differs in some of its parts
  lent-of : (g : Unit {0}) (h : H) (v : V) (m : M) (s : Streams I O P G) (e : Saying E) → World
  lent-of g h v m s e = (((((g, h), v), m), s), e)

  later-with : (u w : World) → shelf.faults u.0.0.0.0.1 ≤ shelf.faults w.0.0.0.0.1 → vault.faults u.0.0.0.1 ≤ vault.faults w.0.0.0.1 → maker.sizes u.0.0.1 ≤ maker.sizes w.0.0.1
      → StreamsLater u.0.1 w.0.1 → err.faults u.1.sink ≤ err.faults w.1.sink → (vault.tells u.0.0.0.1 → vault.tells w.0.0.0.1) → IsLater u w
  later-with u w a b c d e f = record { files = a; contents = b; patterns = c; input = d.input; out = d.out; said = e; telling = f }

  later : (u : World) (call : Call) (x : Answer call) (w : World) → on_lent shelf vault maker source sink plugin engine err u call x w → IsLater u w
  later u call x w (inr (m, a)) =
      later-with u w (same-count (ap (λ t. shelf.faults t.0.0.0.1) a)) (same-count (ap (λ t. vault.faults t.0.0.1) a)) (same-count (ap (λ t. maker.sizes t.0.1) a)) (same-streams u.0.1 w.0.1 (ap (λ t. t.1) a))
      (err-later u.1 call x w.1 m) (subst (λ t. vault.tells t) (sym (ap (λ t. t.0.0.1) a)))
  later u call x w (inl (inr (m, a), b)) =
      later-with u w (same-count (ap (λ t. shelf.faults t.0.0.1) a)) (same-count (ap (λ t. vault.faults t.0.1) a)) (same-count (ap (λ t. maker.sizes t.1) a)) (streams-later u.0.1 call x w.0.1 m)
      (same-count (ap (λ (t : Saying E). err.faults t.sink) b)) (subst (λ t. vault.tells t) (sym (ap (λ t. t.0.1) a)))
  later u call x w (inl (inl (inr (m, a), b), c)) =
      later-with u w (same-count (ap (λ t. shelf.faults t.0.1) a)) (same-count (ap (λ t. vault.faults t.1) a)) (maker-later maker u.0.0.1 call x w.0.0.1 m) (same-streams u.0.1 w.0.1 b)
      (same-count (ap (λ (t : Saying E). err.faults t.sink) c)) (subst (λ t. vault.tells t) (sym (ap (λ t. t.1) a)))
  later u call x w (inl (inl (inl (inr (m, a), b), c), d)) =
      later-with u w (same-count (ap (λ t. shelf.faults t.1) a)) (vault-later vault u.0.0.0.1 call x w.0.0.0.1 m) (same-count (ap maker.sizes b)) (same-streams u.0.1 w.0.1 c)
      (same-count (ap (λ (t : Saying E). err.faults t.sink) d)) (vault-tells vault u.0.0.0.1 call x w.0.0.0.1 m)
  later u call x w (inl (inl (inl (inl (inr (m, z), a), b), c), d)) =
      later-with u w (shelf-later shelf u.0.0.0.0.1 call x w.0.0.0.0.1 m) (same-count (ap vault.faults a)) (same-count (ap maker.sizes b)) (same-streams u.0.1 w.0.1 c)
      (same-count (ap (λ (t : Saying E). err.faults t.sink) d)) (subst (λ t. vault.tells t) (sym a))
  later u call x w (inl (inl (inl (inl (inl (m, z), a), b), c), d)) =
      later-with u w (same-count (ap shelf.faults z)) (same-count (ap vault.faults a)) (same-count (ap maker.sizes b)) (same-streams u.0.1 w.0.1 c)
      (same-count (ap (λ (t : Saying E). err.faults t.sink) d)) (subst (λ t. vault.tells t) (sym a))

  -- ---- what each object tells

  abbrev told : World → Held P
  told = held shelf vault source sink err

  abbrev says_so : Moves Call Answer (Held P)
  says_so = tells plugin

  -- a shelf
  module _ (t : shelf.tells) (r : Held P) (u v : H) (none : Rose (shelf.faults u) (shelf.faults v) → ⊥) where
    abbrev at-files : H → Held P
    at-files h = record r { files = shelf.files h }

    files-kept : shelf.files v ≡ shelf.files u → at-files v ≡ at-files u
    files-kept e i = record r { files = e i }

    shelf-told : (call : Call) (x : Answer call) → on_shelf shelf u call x v → is_hungry call x ≡ false → says_so (at-files u) call x (at-files v)
    shelf-told (spells words) x m f = absurd m
    shelf-told (checks bytes) x m f = (m.read, ap at-files m.same)
    shelf-told (reads name most) x m f = let s = shelf.truthful t u name most x v m.moved in (s.0, files-kept s.1)
    shelf-told (puts name bytes) x m f = (shelf.puts_whole t u name bytes x v m.moved, refl)
    shelf-told (opens name script) x m f = (m.told t, files-kept (m.kept t))
    shelf-told lists x m f = absurd m
    shelf-told (loads name) x m f = absurd m
    shelf-told (saves name content) x m f = absurd m
    shelf-told (removes name) x m f = absurd m
    shelf-told (makes texts) x m f = absurd m
    shelf-told (writes bytes) x m f = absurd m
    shelf-told (crosses modules words budget) x m f = absurd m
    shelf-told (measures asked modules hook) x m f = absurd m
    shelf-told (tries modules words budget) x m f = absurd m
    shelf-told (tests asked modules) x m f = absurd m
    shelf-told (selects budget before after) x m f = absurd m
    shelf-told (judges budget modules) x m f = absurd m
    shelf-told (says text) x m f = absurd m

  -- a vault
  module _ (r : Held P) (u v : V) (t : vault.tells u) where
    abbrev at-contents : V → Held P
    at-contents w = record r { contents = vault.contents w }

    contents-kept : vault.contents v ≡ vault.contents u → at-contents v ≡ at-contents u
    contents-kept e i = record r { contents = e i }

    vault-told : (call : Call) (x : Answer call) → on_vault vault u call x v → is_hungry call x ≡ false → says_so (at-contents u) call x (at-contents v)
    vault-told (spells words) x m f = absurd m
    vault-told (checks bytes) x m f = absurd m
    vault-told (reads name most) x m f = absurd m
    vault-told (puts name bytes) x m f = absurd m
    vault-told (opens name script) x m f = absurd m
    vault-told lists x m f = let s = vault.lists_truly u x v t m.moved in (s.1, contents-kept s.2)
    vault-told (loads name) x m f = let s = vault.loads_truly u name x v t m.moved in (s.1, contents-kept s.2)
    vault-told (saves name content) x m f = ((vault.saves_whole u name content x v t m.moved).1, refl)
    vault-told (removes name) x m f = ((vault.removes_whole u name x v t m.moved).1, refl)
    vault-told (makes texts) x m f = absurd m
    vault-told (writes bytes) x m f = absurd m
    vault-told (crosses modules words budget) x m f = absurd m
    vault-told (measures asked modules hook) x m f = absurd m
    vault-told (tries modules words budget) x m f = absurd m
    vault-told (tests asked modules) x m f = absurd m
    vault-told (selects budget before after) x m f = absurd m
    vault-told (judges budget modules) x m f = absurd m
    vault-told (says text) x m f = absurd m

  -- no object is asked
  grammar-told : (r : Held P) (u v : Unit {0}) (call : Call) (x : Answer call) → on_grammar u call x v → says_so r call x r
  grammar-told r u v (spells words) x m = (m, refl)
  grammar-told r u v (checks bytes) x m = (m.read, refl)
  grammar-told r u v (reads name most) x m = absurd m
  grammar-told r u v (puts name bytes) x m = absurd m
  grammar-told r u v (opens name script) x m = absurd m
  grammar-told r u v lists x m = absurd m
  grammar-told r u v (loads name) x m = absurd m
  grammar-told r u v (saves name content) x m = absurd m
  grammar-told r u v (removes name) x m = absurd m
  grammar-told r u v (makes texts) x m = absurd m
  grammar-told r u v (writes bytes) x m = absurd m
  grammar-told r u v (crosses modules words budget) x m = absurd m
  grammar-told r u v (measures asked modules hook) x m = absurd m
  grammar-told r u v (tries modules words budget) x m = absurd m
  grammar-told r u v (tests asked modules) x m = absurd m
  grammar-told r u v (selects budget before after) x m = absurd m
  grammar-told r u v (judges budget modules) x m = absurd m
  grammar-told r u v (says text) x m = absurd m

  -- a maker, which holds nothing
  maker-told : (r : Held P) (u v : M) (call : Call) (x : Answer call) → on_maker maker u call x v → says_so r call x r
  maker-told r u v (spells words) x m = absurd m
  maker-told r u v (checks bytes) x m = absurd m
  maker-told r u v (reads name most) x m = absurd m
  maker-told r u v (puts name bytes) x m = absurd m
  maker-told r u v (opens name script) x m = absurd m
  maker-told r u v lists x m = absurd m
  maker-told r u v (loads name) x m = absurd m
  maker-told r u v (saves name content) x m = absurd m
  maker-told r u v (removes name) x m = absurd m
  maker-told r u v (makes texts) x m = refl
  maker-told r u v (writes bytes) x m = absurd m
  maker-told r u v (crosses modules words budget) x m = absurd m
  maker-told r u v (measures asked modules hook) x m = absurd m
  maker-told r u v (tries modules words budget) x m = absurd m
  maker-told r u v (tests asked modules) x m = absurd m
  maker-told r u v (selects budget before after) x m = absurd m
  maker-told r u v (judges budget modules) x m = absurd m
  maker-told r u v (says text) x m = absurd m

  -- `err`
  module _ (t : err.tells) (r : Held P) (u v : Saying E) (none : Rose (err.faults u.sink) (err.faults v.sink) → ⊥) where
    abbrev shown : Saying E → Saying (List ℕ)
    shown e = record { sink = err.contents e.sink; told = e.told }

    abbrev at-err : Saying E → Held P
    at-err e = record r { err = shown e }

    err-told : (call : Call) (x : Answer call) → on_err err u call x v → says_so (at-err u) call x (at-err v)
    err-told (spells words) x m = absurd m
    err-told (checks bytes) x m = absurd m
    err-told (reads name most) x m = absurd m
    err-told (puts name bytes) x m = absurd m
    err-told (opens name script) x m = absurd m
    err-told lists x m = absurd m
    err-told (loads name) x m = absurd m
    err-told (saves name content) x m = absurd m
    err-told (removes name) x m = absurd m
    err-told (makes texts) x m = absurd m
    err-told (writes bytes) x m = absurd m
    err-told (crosses modules words budget) x m = absurd m
    err-told (measures asked modules hook) x m = absurd m
    err-told (tries modules words budget) x m = absurd m
    err-told (tests asked modules) x m = absurd m
    err-told (selects budget before after) x m = absurd m
    err-told (judges budget modules) x m = absurd m
    err-told (says text) x m = (record { said = λ w. m.said w t; not_failed = λ w f. none (m.rose w f); over = λ w. ap shown (m.over w) }, refl)

  -- ---- input and output

  module _ (ts : source.tells) (to : sink.tells) (tf : engine.faithful) (r : Held P) (u v : Streams I O P G)
      (no_read : Rose (source.faults u.input) (source.faults v.input) → ⊥) (no_write : Rose (sink.faults u.out) (sink.faults v.out) → ⊥) where
    abbrev at-streams : Streams I O P G → Held P
    at-streams s = record r { left = source.left s.input; out = sink.contents s.out; plugins = s.plugins }

    -- what is heard of a source that tells is what it has
    heard-so : (Q : List ℕ → List ℕ → Type 0) → OnInput source.tells (source.left u.input) (source.left v.input) Q → Q (source.left u.input) (source.left v.input)
    heard-so Q h =
        let same = h.told ts in
        subst (λ a. Q a (source.left v.input)) same.0 (subst (λ b. Q h.input b) same.1 (h.holds h.input h.rest h.fed))

    ran-as : (asked : Asked) (ms : List LoadedModule) (hook : Option MeantHook) (before after : Streams I O P G) (q : Ran)
        → before.input ≡ u.input → after.input ≡ v.input → before.out ≡ u.out → after.out ≡ v.out
        → MeasureOf source sink plugin engine before asked ms hook (Ok (ended_of q)) after → RanAs plugin asked ms hook before.plugins (at-streams u) q after.plugins (at-streams v)
    ran-as asked ms hook before after q bi ai bo ao m =
        let Q : List ℕ → List ℕ → Type 0 = λ all rest. MeasuredAs plugin asked ms (sources_of hook before.plugins asked.by_name) (run_modules ms asked.words all asked.budget) (ended_of q) after.plugins (λ bytes. sink.tells → sink.contents after.out ≡ sink.contents before.out ++ bytes) rest in
        let S : List ℕ → List ℕ → Type 0 = λ all rest. HasRunSteps (tree_plan ms asked.arcs asked.context) ms (run_modules ms asked.words all asked.budget).items q.rows in
        let move = λ (W : List ℕ → List ℕ → Type 0) (h : OnInput source.tells (source.left before.input) (source.left after.input) W).
        heard-so W (subst (λ a. OnInput source.tells (source.left a) (source.left v.input) W) bi (subst (λ b. OnInput source.tells (source.left before.input) (source.left b) W) ai h)) in
        let e = move Q (m.ended tf) in record {
          ended = record {
            outcome = e.outcome;
            steps = e.steps;
            left_sources = e.left_sources;
            left_plugins = e.left_plugins;
            rows = e.rows;
            out = subst (λ a. sink.contents v.out ≡ sink.contents a ++ (run_modules ms asked.words (source.left u.input) asked.budget).out) bo (subst (λ b. sink.contents b ≡ sink.contents before.out ++ (run_modules ms asked.words (source.left u.input) asked.budget).out) ao (e.out to));
            left = e.left;
          };
          steps = move S (m.steps tf);
        }

    no-fault : (asked : Asked) (ms : List LoadedModule) (hook : Option MeantHook) (before after : Streams I O P G) (fault : RunFault)
        → before.input ≡ u.input → after.input ≡ v.input → before.out ≡ u.out → after.out ≡ v.out
        → MeasureOf source sink plugin engine before asked ms hook (Err fault) after → fault ≢ run_fault.NoMemory → ⊥
    no-fault asked ms hook before after run_fault.ReadFault bi ai bo ao m f = no_read (subst (λ a. Rose (source.faults a) (source.faults v.input)) bi (subst (λ b. Rose (source.faults before.input) (source.faults b)) ai (m.read_fault refl)))
    no-fault asked ms hook before after run_fault.WriteFault bi ai bo ao m f = no_write (subst (λ a. Rose (sink.faults a) (sink.faults v.out)) bo (subst (λ b. Rose (sink.faults before.out) (sink.faults b)) ao (m.write_fault refl)))
    no-fault asked ms hook before after run_fault.NoMemory bi ai bo ao m f = f refl

    fed : (fault : RunFault) → is_hungry (crosses [] [] 0) (Err fault) ≡ false → fault ≢ run_fault.NoMemory
    fed run_fault.ReadFault f e = cc
    fed run_fault.WriteFault f e = cc
    fed run_fault.NoMemory f e = true≢false f

    streams-told : (call : Call) (x : Answer call) → on_run source sink plugin engine u call x v → is_hungry call x ≡ false → says_so (at-streams u) call x (at-streams v)
    streams-told (spells words) x m f = absurd m
    streams-told (checks bytes) x m f = absurd m
    streams-told (reads name most) x m f = absurd m
    streams-told (puts name bytes) x m f = absurd m
    streams-told (opens name script) x m f = absurd m
    streams-told lists x m f = absurd m
    streams-told (loads name) x m f = absurd m
    streams-told (saves name content) x m f = absurd m
    streams-told (removes name) x m f = absurd m
    streams-told (makes texts) x m f = absurd m
    streams-told (writes bytes) None m f = (refl, λ i. record r { left = source.left (m.same i).input; out = m.wrote.told to i; plugins = (m.same i).plugins })
    streams-told (writes bytes) (Some sink_error.Failed) m f = absurd (no_write (m.wrote.failed refl))
    streams-told (writes bytes) (Some sink_error.NoMemory) m f = absurd (true≢false f)
    streams-told (crosses modules words budget) (Ok q) m f = (
      ran-as (arcs_asked words budget) modules None _ _ q refl refl refl refl m.run,
      λ i. record (at-streams v) { plugins = m.plugins i },
    )
    streams-told (crosses modules words budget) (Err fault) m f = no-fault (arcs_asked words budget) modules None _ _ fault refl refl refl refl m.run (fed fault f)
    streams-told (measures asked modules hook) (Ok q) m f = (ran-as (request_of asked) modules (option_map hook_meant hook) u v q refl refl refl refl m.run, refl)
    streams-told (measures asked modules hook) (Err fault) m f = no-fault (request_of asked) modules (option_map hook_meant hook) u v fault refl refl refl refl m.run (fed fault f)
    streams-told (tries modules words budget) x m f = ap at-streams m.same
    streams-told (tests asked modules) x m f = (m.ran, ap at-streams m.same)
    streams-told (selects budget before after) x m f = (m.selected, ap at-streams m.same)
    streams-told (judges budget modules) x m f = (m.judged, ap at-streams m.same)
    streams-told (says text) x m f = absurd m

  -- ---- all of them

  module _ (files : shelf.tells) (input : source.tells) (out : sink.tells) (said : err.tells) (faithful : engine.faithful) where
    tells-of : (u : World) (call : Call) (x : Answer call) (w : World) → on_lent shelf vault maker source sink plugin engine err u call x w → None_rose u w → is_hungry call x ≡ false → says_so (told u) call x (told w)
    tells-of u call x w (inr (m, a)) n f =
        subst (λ z. says_so (told u) call x z) (λ i. told (sym a i, w.1)) (err-told said (told u) u.1 w.1 n.1.said call x m)
    tells-of u call x w (inl (inr (m, a), b)) n f =
        subst (λ z. says_so (told u) call x z) (λ i. told ((sym a i, w.0.1), sym b i)) (streams-told input out faithful (told u) u.0.1 w.0.1 n.1.input n.1.out call x m f)
    tells-of u call x w (inl (inl (inr (m, a), b), c)) n f =
        subst (λ z. says_so (told u) call x z) (λ i. told (((sym a i, w.0.0.1), sym b i), sym c i)) (maker-told (told u) u.0.0.1 w.0.0.1 call x m)
    tells-of u call x w (inl (inl (inl (inr (m, a), b), c), d)) n f =
        subst (λ z. says_so (told u) call x z) (λ i. told ((((sym a i, w.0.0.0.1), sym b i), sym c i), sym d i)) (vault-told (told u) u.0.0.0.1 w.0.0.0.1 n.0 call x m f)
    tells-of u call x w (inl (inl (inl (inl (inr (m, z), a), b), c), d)) n f =
        subst (λ y. says_so (told u) call x y) (λ i. told (((((sym z i, w.0.0.0.0.1), sym a i), sym b i), sym c i), sym d i)) (shelf-told files (told u) u.0.0.0.0.1 w.0.0.0.0.1 n.1.files call x m f)
    tells-of u call x w (inl (inl (inl (inl (inl (m, z), a), b), c), d)) n f =
        subst (λ y. says_so (told u) call x y) (λ i. told (((((w.0.0.0.0.0, sym z i), sym a i), sym b i), sym c i), sym d i)) (grammar-told (told u) u.0.0.0.0.0 w.0.0.0.0.0 call x m)

    abbrev telling : IsTelling (on_lent shelf vault maker source sink plugin engine err) is_hungry says_so
    telling = record { counting = counting; view = told; later = later; tells = tells-of }

  -- a step over objects that tell is one over what they hold
  pub held-so : (words : List Word) (old new : World) (e : Result Answered PlainWhy) → AllTell shelf vault source sink engine err old.0.0.0.1 → NoneRose shelf vault maker source sink err old new → IsFed IsNoMemory e
      → Follows (on_lent shelf vault maker source sink plugin engine err) IsNoMemory (step words) old e new → Follows says_so nothing_wants (step words) (told old) e (told new)
  held-so words old new e t n ample f = record { ends = told-of (telling t.files t.input t.out t.said t.true_engine) IsNoMemory (step words) old new e (law_of_want words) ample (t.contents, n) f.ends }
