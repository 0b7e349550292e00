-- What a refused command leaves of files and data that are told; and what an answer says of its ending.
use Rattle.std.proofs.Common.{◌≡◌, ◌∙◌, inl, inr, true, true≢false, refl, sym, ap, List, Result, Ok, Err}
use Rattle.cov_contexts.specs.declared.plugins.Plugin.{Ghosts as PluginOf}
use Rattle.cov_exclude.specs.declared.maker.Maker.{Ghosts as MakerOf}
use Rattle.cov_outside.specs.declared.shelf.Shelf.{Ghosts as ShelfOf}
use Rattle.cov_outside.specs.declared.sink.Sink.{Ghosts as SinkOf}
use Rattle.cov_outside.specs.declared.source.Source.{Ghosts as SourceOf}
use Rattle.py_machine.specs.declared.engine.Engine.{Ghosts as EngineOf}
use Rattle.cov_measure.specs.Measures.{Streams}
use Rattle.cov_programs.specs.Ends.{Ends, Follows}
use Rattle.cov_programs.specs.Laws.{IsCareful}
use Rattle.cov_programs.specs.Objects.{Moves, beside}
use Rattle.cov_programs.specs.Programs.{bind}
use Rattle.cov_step.specs.Answers.{given_or}
use Rattle.cov_step.specs.Calls.{Call, spells, Answer, Answered, IsNoMemory}
use Rattle.cov_step.specs.Objects.{on_grammar, on_shelf, on_vault, on_maker, on_err, Saying}
use Rattle.cov_step.specs.Promises.{keeps}
use Rattle.cov_step.specs.Step.{step, doing, IsSpelled}
use Rattle.cov_step.proofs.Care.{law_of_care}
use Rattle.cov_step.proofs.Kept.{shelf-kept, vault-tells, vault-kept}
use Rattle.cov_step.proofs.Leaving.{leaves, left-onward, right-onward, left-kept, right-kept}
use Rattle.cov_streams.specs.Objects.{on_run}
use Rattle.cov_vault.specs.declared.vault.Vault.{Ghosts as VaultOf}
use Rattle.cov_why.specs.Answers.{Refusal, usage, PlainWhy, is_refusal}
use Rattle.cov_words.specs.Values.{Word}
use Rattle.cov_app.specs.Kept.{ChangesLast}
use Rattle.cov_app.specs.Objects.{All, on_all, on_command}
use Rattle.cov_app.specs.Taken.{why_of}

-- ---- the ending of an answer

ok-no-err : {A B : Type 0} {a : A} {b : B} → ◌≡◌ {A = Result A B} (Ok a) (Err b) → ⊥
ok-no-err e = cc

-- a refusal is the ending of its answer
pub refused-so : (e : Result Answered PlainWhy) (r : Refusal) → why_of e ≡ Err r → e ≡ Err (Err r)
refused-so (Ok a) r is = absurd (ok-no-err is)
refused-so (Err why) r is = ap Err is

-- ---- a step that is refused

module _ {W K : Type 0} (moves : Moves Call Answer W) (part : W → K) (Tells : W → Type 0)
    (onward : (u : W) (call : Call) (x : Answer call) (v : W) → moves u call x v → Tells u → Tells v)
    (kept : (u : W) (call : Call) (x : Answer call) (v : W) → moves u call x v → Tells u → keeps call x ≡ true → part v ≡ part u)
    (spelled : (u : W) (words : List Word) (x : Answer (spells words)) (v : W) → moves u (spells words) x v → IsSpelled words x) where
  rest-careful : (words : List Word) (x : Answer (spells words)) → ChangesLast words → IsSpelled words x → IsCareful keeps (bind (given_or usage x) doing)
  rest-careful words (Ok c) changes is = law_of_care c (changes c is)
  rest-careful words (Err i) changes is = tt

  by-ends : (words : List Word) (old new : W) (why : PlainWhy) → ChangesLast words → Tells old → Ends moves IsNoMemory (step words) old (Err why) new → part new ≡ part old
  by-ends words old new why changes t (inl s) = ap part s.same
  by-ends words old new why changes t (inr (x, mid, m, rest)) =
      leaves moves part Tells onward kept (bind (given_or usage x) doing) mid new why (rest-careful words x changes (spelled old words x mid m)) (onward old (spells words) x mid m t) (record { ends = rest })
      ∙ kept old (spells words) x mid m t refl

  -- a step that is refused leaves the part
  pub step-leaves : (words : List Word) (old new : W) (e : Result Answered PlainWhy) → is_refusal (why_of e) ≡ true → ChangesLast words → Tells old → Follows moves IsNoMemory (step words) old e new → part new ≡ part old
  step-leaves words old new (Ok a) refused changes t f = absurd (true≢false (sym refused))
  step-leaves words old new (Err why) refused changes t f = by-ends words old new why changes t f.ends

-- ---- all objects

module _ {H V M I O P G : Type 0} (shelf : ShelfOf H) (vault : VaultOf V) (maker : MakerOf M) (source : SourceOf I) (sink : SinkOf O) (plugin : PluginOf P) (engine : EngineOf G) where
  abbrev two : Moves Call Answer (Unit {0} × H)
  two = beside on_grammar (on_shelf shelf)

  abbrev three : Moves Call Answer ((Unit {0} × H) × V)
  three = beside two (on_vault vault)

  abbrev four : Moves Call Answer (((Unit {0} × H) × V) × M)
  four = beside three (on_maker maker)

  abbrev streaming : Moves Call Answer (Streams I O P G)
  streaming = on_run source sink plugin engine

  abbrev all : Moves Call Answer (All H V M I O P G)
  all = on_all shelf vault maker source sink plugin engine

  spelled-so : (u : All H V M I O P G) (words : List Word) (x : Answer (spells words)) (v : All H V M I O P G) → all u (spells words) x v → IsSpelled words x
  spelled-so u words x v (inl (inl (inl (inl (m, a), b), c), d)) = m
  spelled-so u words x v (inl (inl (inl (inr (m, a), b), c), d)) = absurd m
  spelled-so u words x v (inl (inl (inr (m, b), c), d)) = absurd m
  spelled-so u words x v (inl (inr (m, c), d)) = absurd m
  spelled-so u words x v (inr (m, d)) = absurd m

  module _ {E : Type 0} (err : SinkOf E) where
    abbrev whole : Moves Call Answer (All H V M I O P G × Saying E)
    whole = on_command shelf vault maker source sink plugin engine err

    pub spelled-whole : (u : All H V M I O P G × Saying E) (words : List Word) (x : Answer (spells words)) (v : All H V M I O P G × Saying E) → whole u (spells words) x v → IsSpelled words x
    spelled-whole u words x v (inl (m, e)) = spelled-so u.0 words x v.0 m
    spelled-whole u words x v (inr (m, e)) = absurd m

    pub files-left : shelf.tells → (words : List Word) (old new : All H V M I O P G × Saying E) (e : Result Answered PlainWhy) → is_refusal (why_of e) ≡ true → ChangesLast words → Follows whole IsNoMemory (step words) old e new
        → shelf.files new.0.0.0.0.1 ≡ shelf.files old.0.0.0.0.1
    files-left told words old new e refused changes f =
        step-leaves whole (λ w. shelf.files w.0.0.0.0.1) (λ w. shelf.tells) (λ u call x v m t. t)
        (left-kept all (on_err err) (λ w. shelf.files w.0.0.0.1) (λ w. shelf.tells)
        (left-kept four streaming (λ w. shelf.files w.0.0.1) (λ w. shelf.tells) (left-kept three (on_maker maker) (λ w. shelf.files w.0.1) (λ w. shelf.tells)
        (left-kept two (on_vault vault) (λ w. shelf.files w.1) (λ w. shelf.tells) (right-kept on_grammar (on_shelf shelf) shelf.files (λ w. shelf.tells) (λ u call x v m t k. shelf-kept shelf t u call x v m k))))))
        spelled-whole words old new e refused changes told f

    pub data-tells : (u : All H V M I O P G × Saying E) (call : Call) (x : Answer call) (v : All H V M I O P G × Saying E) → whole u call x v → vault.tells u.0.0.0.1 → vault.tells v.0.0.0.1
    data-tells = left-onward all (on_err err) (λ w. vault.tells w.0.0.1) (left-onward four streaming (λ w. vault.tells w.0.1) (left-onward three (on_maker maker) (λ w. vault.tells w.1) (right-onward two (on_vault vault) vault.tells (vault-tells vault))))

    pub data-kept : (u : All H V M I O P G × Saying E) (call : Call) (x : Answer call) (v : All H V M I O P G × Saying E) → whole u call x v → vault.tells u.0.0.0.1 → keeps call x ≡ true → vault.contents v.0.0.0.1 ≡ vault.contents u.0.0.0.1
    data-kept = left-kept all (on_err err) (λ w. vault.contents w.0.0.1) (λ w. vault.tells w.0.0.1) (left-kept four streaming (λ w. vault.contents w.0.1) (λ w. vault.tells w.0.1) (left-kept three (on_maker maker) (λ w. vault.contents w.1) (λ w. vault.tells w.1) (right-kept two (on_vault vault) vault.contents vault.tells (vault-kept vault))))

    pub data-left : (words : List Word) (old new : All H V M I O P G × Saying E) (e : Result Answered PlainWhy) → vault.tells old.0.0.0.1 → is_refusal (why_of e) ≡ true → ChangesLast words → Follows whole IsNoMemory (step words) old e new
        → vault.contents new.0.0.0.1 ≡ vault.contents old.0.0.0.1
    data-left words old new e told refused changes f =
        step-leaves whole (λ w. vault.contents w.0.0.0.1) (λ w. vault.tells w.0.0.0.1) data-tells data-kept
        spelled-whole words old new e refused changes told f
