-- Words, lines and scripts are refused exactly for their causes, over the objects of a command.
use Rattle.std.proofs.Common.{◌≡◌, ◌≢◌, ◌⊎◌, inl, inr, ◌∙◌, sym, ap, subst, ℕ, ◌≤◌, refl, List, [], ◌∷◌, Result, Ok, Err}
use Rattle.std.specs.Str.Lines.{lines}
use Rattle.cov_contexts.specs.declared.plugins.Plugin.{Ghosts as PluginOf}
use Rattle.cov_exclude.specs.declared.maker.Maker.{Ghosts as MakerOf}
use Rattle.cov_load_laws.specs.Loadings.{OneLoading, NotStopped}
use Rattle.cov_load_laws.specs.Readings.{OneReading}
use Rattle.cov_make_laws.specs.Readings.{MadeAreRead}
use Rattle.cov_outside.specs.Files.{Files}
use Rattle.cov_outside.specs.declared.shelf.Shelf.{Ghosts as ShelfOf}
use Rattle.cov_outside.specs.declared.sink.Sink.{Ghosts as SinkOf}
use Rattle.cov_outside.specs.declared.source.Source.{Ghosts as SourceOf}
use Rattle.cov_programs.specs.Ends.{Starves, Ends, Follows}
use Rattle.cov_programs.specs.Laws.{Counting, IsTelling, Folds, with_front}
use Rattle.cov_programs.specs.Objects.{Moves}
use Rattle.cov_programs.specs.Programs.{give, bind}
use Rattle.cov_programs.proofs.Later.{ends-later}
use Rattle.cov_step.specs.Answers.{given_or}
use Rattle.cov_step.specs.Calls.{Call, spells, Answer, Answered, IsNoMemory}
use Rattle.cov_step.specs.Objects.{Saying}
use Rattle.cov_step.specs.Phases.{done}
use Rattle.cov_step.specs.Promises.{is_hungry, EndsLines, IsFold}
use Rattle.cov_step.specs.Scripts.{line_step, script_text, script}
use Rattle.cov_step.specs.Step.{IsSpelled, doing, step}
use Rattle.cov_step.proofs.Folds.{law_of_fold}
use Rattle.cov_step.proofs.Yielding.{law_of_want}
use Rattle.cov_vault.specs.Contents.{Contents}
use Rattle.cov_vault.specs.declared.vault.Vault.{Ghosts as VaultOf}
use Rattle.cov_why.specs.Answers.{Refusal, PlainWhy, no_memory, usage}
use Rattle.cov_words.specs.Commands.{IsCommand, IsOneCommand}
use Rattle.cov_words.specs.Commands as plain
use Rattle.cov_words.specs.Values.{Word}
use Rattle.py_machine.specs.declared.engine.Engine.{Ghosts as EngineOf}
use Rattle.cov_complete_laws.specs.Complete.{Lent, on_lent, EndsWell}
use Rattle.cov_complete_laws.proofs.Holding.{Holding, told}
use Rattle.cov_complete_laws.proofs.Lines.{text-yields, line-yields}
use Rattle.cov_complete_laws.proofs.Objects.{pair, held, IsLater, Unraised, counting, later, telling}
use Rattle.cov_cause_laws.specs.Causes.{IsRefusedFor}
use Rattle.cov_cause_laws.specs.Exactly.{EndsBy, IsExact, IsRefusedExactly, AreLinesExact, IsScriptExact}
use Rattle.cov_cause_laws.specs.Laws.{OneCause, CauseLaw, LineLaw, ScriptCauseLaw}
use Rattle.cov_cause_laws.specs.Lines.{FileRefuses, IsLineRefused}
use Rattle.cov_cause_laws.proofs.Doing.{one-for, one-line, step-exact, line-exact}
use Rattle.cov_cause_laws.proofs.Exactly.{exactly}
use Rattle.cov_cause_laws.proofs.Filed.{one-file, file-exact}

err-is : {A R : Type 0} {a b : R} → ◌≡◌ {A = Result A R} (Err a) (Err b) → a ≡ b
err-is e = cc

-- want of memory is no other refusal
other-memory : {A : Type 0} (why : Refusal) → why ≢ no_memory → ◌≡◌ {A = Result A PlainWhy} (Err (Err no_memory)) (Err (Err why)) → ⊥
other-memory why n e = n (sym (err-is (err-is e)))

starved-by : (A : Type 0) (w : PlainWhy) (why : Refusal) → w ≡ Err no_memory → EndsBy {A = A} why (Err w)
starved-by A w why e = subst (λ x. EndsBy {A = A} why (Err x)) (sym e) (inr (inl refl))

-- a refusal is the same whatever would have been given
given-else : (A B : Type 0) (why : Refusal) (w : PlainWhy) → EndsBy {A = A} why (Err w) → EndsBy {A = B} why (Err w)
given-else A B why (Ok ended) h = h
given-else A B why (Err r) h = h

refused-exactly : (A B : Type 0) (Causes : Refusal → Type 0) (w : PlainWhy) (e : Result B PlainWhy) → IsExact {A = A} Causes (Err w) → e ≡ Err w → IsRefusedExactly Causes e
refused-exactly A B Causes w e h is = (
  (w, is),
  record {
    only = λ why other so. h.only why other (ap Err (err-is (sym is ∙ so)));
    wherever = λ why good cause. subst (λ d. EndsBy why d) (sym is) (given-else A B why w (h.wherever why good cause));
  },
)

-- want of memory refuses exactly for any causes
starved-exact : (Causes : Refusal → Type 0) (w : PlainWhy) → w ≡ Err no_memory → IsExact {A = Answered} Causes (Err w)
starved-exact Causes w e = record {
  only = λ why other so. absurd (other-memory why other (ap Err (sym e) ∙ so));
  wherever = λ why good cause. starved-by Answered w why e;
}

-- what lines came to behind the first of them
rest-ends : (b : Unit {0}) (rest : Result (List (Unit {0})) PlainWhy) (e : Result Answered PlainWhy) → EndsLines (with_front b rest) e → EndsLines rest e
rest-ends b (Ok more) e h = h
rest-ends b (Err w) e h = h

ends-well : (e : Result Answered PlainWhy) → (e ≡ Ok done) ⊎ (e ≡ Err (Err no_memory)) → EndsWell e
ends-well e (inl is) = subst EndsWell (sym is) tt
ends-well e (inr is) = subst EndsWell (sym is) refl

pub one-cause-law : OneReading → OneLoading → NotStopped → IsOneCommand → OneCause
one-cause-law one loads whole once files contents words r s good fine h k = one-for once one loads whole files contents words r s good fine h k

module _ {H V M I O P G E : Type 0} (shelf : ShelfOf H) (vault : VaultOf V) (maker : MakerOf M) (source : SourceOf I) (sink : SinkOf O) (plugin : PluginOf P) (engine : EngineOf G) (err : SinkOf E) where
  abbrev World : Type 0
  World = Lent H V M I O P G × Saying E

  abbrev whole : Moves Call Answer World
  whole = on_lent shelf vault maker source sink plugin engine err

  abbrev files_in : World → Files
  files_in w = shelf.files w.0.0.0.0.1

  abbrev data_in : World → Contents
  data_in w = vault.contents w.0.0.0.1

  abbrev Later : World → World → Type 0
  Later u v = IsLater shelf vault maker source sink plugin engine err u v

  abbrev Quiet : World → World → Type 0
  Quiet u v = Unraised shelf vault maker source sink plugin engine err u v

  abbrev counts : Counting World
  counts = counting shelf vault maker source sink plugin engine err

  abbrev holding : World → Holding
  holding w = held shelf vault maker source sink plugin engine err w

  -- words that are spelled change nothing
  unspelled : (u : World) (words : List Word) (x : Answer (spells words)) (v : World) → whole u (spells words) x v → IsSpelled words x × (v ≡ u)
  unspelled u words x v (inr (m, a)) = absurd m
  unspelled u words x v (inl (inr (m, a), b)) = absurd m
  unspelled u words x v (inl (inl (inr (m, a), b), c)) = absurd m
  unspelled u words x v (inl (inl (inl (inr (m, a), b), c), d)) = absurd m
  unspelled u words x v (inl (inl (inl (inl (inr (m, z), a), b), c), d)) = absurd m
  unspelled u words x v (inl (inl (inl (inl (inl (m, z), a), b), c), d)) = (m, pair (pair (pair (pair (pair refl z) a) b) c) d)

  folds-later : (ls : List (List ℕ)) (u v : World) (d : Result (List (Unit {0})) PlainWhy) → Folds whole IsNoMemory line_step ls u d v → Later u v
  folds-later [] u v d h = ends-later whole IsNoMemory counts (later shelf vault maker source sink plugin engine err) (give []) u v d h
  folds-later (l ∷ ls) u v d (inl (b, mid, rest, first, more, is)) =
      counts.onward (ends-later whole IsNoMemory counts (later shelf vault maker source sink plugin engine err) (line_step l) u mid (Ok b) first) (folds-later ls mid v rest more)
  folds-later (l ∷ ls) u v d (inr (why, first, is)) = ends-later whole IsNoMemory counts (later shelf vault maker source sink plugin engine err) (line_step l) u v (Err why) first

  module _ (one : OneReading) (loads : OneLoading) (never : NotStopped) (law : MadeAreRead) (once : IsOneCommand)
      (small : (words : List Word) (seed size : ℕ) → IsCommand (plain.make seed size) words → size ≤ 16000) (files : shelf.tells) where
    abbrev tells : IsTelling whole is_hungry told
    tells = telling shelf vault maker source sink plugin engine err files

    line-causes : (line : List ℕ) (u v : World) (d : Result (Unit {0}) PlainWhy) → Quiet u v → Ends whole IsNoMemory (line_step line) u d v → IsExact (IsLineRefused (files_in u) (data_in u) line) d
    line-causes line u v d n k =
        exactly whole tells (IsLineRefused (files_in u) (data_in u) line) (one-line once one loads never (files_in u) (data_in u) line) (line_step line) u v d (line-yields line) n
        (line-exact once one loads never law small (holding u) line) k

    file-causes : (name : Word) (u v : World) (d : Result (List ℕ) PlainWhy) → Quiet u v → Ends whole IsNoMemory (script_text name) u d v → IsExact (FileRefuses name (files_in u name)) d
    file-causes name u v d n k =
        exactly whole tells (FileRefuses name (files_in u name)) (λ r s good fine h g. one-file name (files_in u name) r s h g) (script_text name) u v d (text-yields name) n
        (file-exact (holding u) name) k

    lines-exact : (ls : List (List ℕ)) (u v : World) (d : Result (List (Unit {0})) PlainWhy) (e : Result Answered PlainWhy) → Quiet u v → Folds whole IsNoMemory line_step ls u d v → EndsLines d e
        → AreLinesExact whole files_in data_in ls u e
    lines-exact [] u v d e n (inl s) ends = subst EndsWell (sym (subst (λ x. EndsLines x e) s.is ends)) s.wanting
    lines-exact [] u v d e n (inr (is, same)) ends = ends-well e (subst (λ x. EndsLines x e) is ends)
    lines-exact (l ∷ ls) u v d e n (inl (b, mid, rest, first, more, is)) ends =
        let early = ends-later whole IsNoMemory counts (later shelf vault maker source sink plugin engine err) (line_step l) u mid (Ok b) first in
        let late = folds-later ls mid v rest more in
        inr (
          (line-causes l u mid (Ok b) (counts.before early late n) first).wherever,
          (mid, record { ends = first }, lines-exact ls mid v rest e (counts.after early late n) more (rest-ends b rest e (subst (λ x. EndsLines x e) is ends))),
        )
    lines-exact (l ∷ ls) u v d e n (inr (w, first, is)) ends =
        inl (refused-exactly (Unit {0}) Answered (IsLineRefused (files_in u) (data_in u) l) w e (line-causes l u v (Err w) n first) (subst (λ x. EndsLines x e) is ends))

    script-causes : (name : Word) (u v : World) (e : Result Answered PlainWhy) → Quiet u v → Follows whole IsNoMemory (script name) u e v → IsScriptExact whole files_in data_in name u e
    script-causes name u v e n f = by (law_of_fold whole name u e v f)
      where
        by : ((why : PlainWhy) × Follows whole IsNoMemory (script_text name) u (Err why) v × (e ≡ Err why))
            ⊎ ((text : List ℕ) × (mid : World) × Follows whole IsNoMemory (script_text name) u (Ok text) mid × IsFold whole (lines text) mid e v) → IsScriptExact whole files_in data_in name u e
        by (inl (w, g, is)) = inl (refused-exactly (List ℕ) Answered (FileRefuses name (files_in u name)) w e (file-causes name u v (Err w) n g.ends) is)
        by (inr (text, mid, g, fold)) =
            let early = ends-later whole IsNoMemory counts (later shelf vault maker source sink plugin engine err) (script_text name) u mid (Ok text) g.ends in
            let late = folds-later (lines text) mid v fold.told fold.folds in
            inr (
              (file-causes name u mid (Ok text) (counts.before early late n) g.ends).wherever,
              (text, mid, g, lines-exact (lines text) mid v fold.told e (counts.after early late n) fold.folds fold.ends),
            )

    starved-script : (name : Word) (u v : World) (e : Result Answered PlainWhy) → Starves IsNoMemory u e v → IsScriptExact whole files_in data_in name u e
    starved-script name u v e s =
        inl (refused-exactly Answered Answered (FileRefuses name (files_in u name)) s.why e (starved-exact (FileRefuses name (files_in u name)) s.why s.wanting) s.is)

    spelled-script : (words : List Word) (name : Word) (x : Answer (spells words)) (u v : World) (e : Result Answered PlainWhy) → IsCommand (plain.script name) words → IsSpelled words x → Quiet u v
        → Ends whole IsNoMemory (bind (given_or usage x) doing) u e v → IsScriptExact whole files_in data_in name u e
    spelled-script words name (Ok c) u v e is s n k = script-causes name u v e n (record { ends = subst (λ b. Ends whole IsNoMemory (doing b) u e v) (once words c (plain.script name) s is) k })
    spelled-script words name (Err i) u v e is s n k = absurd (s.0 (plain.script name) is)

    step-script : (words : List Word) (name : Word) (u v : World) (e : Result Answered PlainWhy) → IsCommand (plain.script name) words → Quiet u v → Ends whole IsNoMemory (step words) u e v → IsScriptExact whole files_in data_in name u e
    step-script words name u v e is n (inl s) = starved-script name u v e s
    step-script words name u v e is n (inr (x, mid, m, rest)) =
        let read = unspelled u words x mid m in
        spelled-script words name x u v e is read.0 n (subst (λ w. Ends whole IsNoMemory (bind (given_or usage x) doing) w e v) read.1 rest)

module _ (one : OneReading) (loads : OneLoading) (never : NotStopped) (law : MadeAreRead) (once : IsOneCommand)
    (small : (words : List Word) (seed size : ℕ) → IsCommand (plain.make seed size) words → size ≤ 16000)
    {H V M I O P G E : Type 0} (shelf : ShelfOf H) (vault : VaultOf V) (maker : MakerOf M) (source : SourceOf I) (sink : SinkOf O) (plugin : PluginOf P) (engine : EngineOf G) (err : SinkOf E) where
  pub cause-law : CauseLaw shelf vault maker source sink plugin engine err
  cause-law words old new said spoken e no-script files data_told none f =
      exactly (on_lent shelf vault maker source sink plugin engine err) (telling shelf vault maker source sink plugin engine err files)
      (IsRefusedFor (shelf.files old.0.0.0.1) (vault.contents old.0.0.1) words) (one-for once one loads never (shelf.files old.0.0.0.1) (vault.contents old.0.0.1) words)
      (step words) (old, said) (new, spoken) e (law_of_want words) (data_told, none)
      (step-exact once one loads never law small (held shelf vault maker source sink plugin engine err (old, said)) words no-script) f.ends

  pub line-law : LineLaw shelf vault maker source sink plugin engine err
  line-law line old new said spoken e files data_told none f =
      line-causes shelf vault maker source sink plugin engine err one loads never law once small files line (old, said) (new, spoken) e (data_told, none) f.ends

  pub script-law : ScriptCauseLaw shelf vault maker source sink plugin engine err
  script-law words name old new said spoken e is files data_told none f =
      step-script shelf vault maker source sink plugin engine err one loads never law once small files words name (old, said) (new, spoken) e is (data_told, none) f.ends
