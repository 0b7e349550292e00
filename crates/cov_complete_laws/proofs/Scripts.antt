-- A script that is ready isn't refused.
use Rattle.std.proofs.Common.{◌≡◌, ◌⊎◌, inl, inr, ◌≤◌, ℕ, refl, sym, subst, List, [], ◌∷◌, Result, Ok, Err}
use Rattle.std.specs.Str.Lines.{lines}
use Rattle.cov_contexts.specs.declared.plugins.Plugin.{Ghosts as PluginOf}
use Rattle.cov_exclude.specs.declared.maker.Maker.{Ghosts as MakerOf}
use Rattle.cov_load_laws.specs.Completeness.{Completes}
use Rattle.cov_load_laws.specs.Readings.{OneReading}
use Rattle.cov_make_laws.specs.Readings.{MadeAreRead}
use Rattle.cov_outside.specs.Files.{Files}
use Rattle.cov_outside.specs.declared.shelf.Shelf.{Ghosts as ShelfOf}
use Rattle.cov_outside.specs.declared.sink.Sink.{Ghosts as SinkOf}
use Rattle.cov_outside.specs.declared.source.Source.{Ghosts as SourceOf}
use Rattle.cov_programs.specs.Ends.{Ends, Follows}
use Rattle.cov_programs.specs.Laws.{Counting, Folds, with_front}
use Rattle.cov_programs.specs.Objects.{Moves}
use Rattle.cov_programs.specs.Programs.{give, bind}
use Rattle.cov_programs.proofs.Later.{ends-later}
use Rattle.cov_programs.proofs.Telling.{told-of}
use Rattle.cov_step.specs.Answers.{given_or}
use Rattle.cov_step.specs.Calls.{Call, spells, Answer, Answered, IsNoMemory}
use Rattle.cov_step.specs.Objects.{Saying}
use Rattle.cov_step.specs.Promises.{EndsLines, IsFold}
use Rattle.cov_step.specs.Scripts.{line_step, script_text, script}
use Rattle.cov_step.specs.Step.{IsSpelled, doing, step}
use Rattle.cov_step.proofs.Folds.{law_of_fold}
use Rattle.cov_vault.specs.Contents.{Contents}
use Rattle.cov_vault.specs.declared.vault.Vault.{Ghosts as VaultOf}
use Rattle.cov_why.specs.Answers.{PlainWhy, usage}
use Rattle.cov_words.specs.Commands.{IsCommand, IsOneCommand}
use Rattle.cov_words.specs.Commands as plain
use Rattle.cov_words.specs.Values.{Word}
use Rattle.py_machine.specs.declared.engine.Engine.{Ghosts as EngineOf}
use Rattle.cov_complete_laws.specs.Complete.{Lent, on_lent, EndsWell}
use Rattle.cov_complete_laws.specs.Scripts.{IsReadyLine, AreReady, IsReadyScript, ScriptLaw}
use Rattle.cov_complete_laws.proofs.Sure.{sure-gives, sure-all}
use Rattle.cov_complete_laws.proofs.Holding.{Holding, told}
use Rattle.cov_complete_laws.proofs.Objects.{pair, held, IsLater, Unraised, counting, later, telling}
use Rattle.cov_complete_laws.proofs.Completing.{runs-well}
use Rattle.cov_complete_laws.proofs.Lines.{text-yields, line-yields, text-sure, line-sure}

well-so : {A : Type 0} {d e : Result A PlainWhy} → e ≡ d → EndsWell d → EndsWell e
well-so {d = d} {e = e} is h = subst (λ x. EndsWell x) (sym is) h

-- what is left of a list ends well with its first value
with-first : {A : Type 0} (a : A) (d : Result (List A) PlainWhy) → EndsWell d → EndsWell (with_front a d)
with-first a (Ok more) h = tt
with-first a (Err why) h = h

-- lines that end well, and nothing or want of memory behind them
lines-well : (d : Result (List (Unit {0})) PlainWhy) (e : Result Answered PlainWhy) → EndsLines d e → EndsWell d → EndsWell e
lines-well (Ok more) e (inl is) h = well-so is tt
lines-well (Ok more) e (inr is) h = well-so is refl
lines-well (Err why) e is h = well-so is h

module _ {H V M I O P G E : Type 0} (shelf : ShelfOf H) (vault : VaultOf V) (maker : MakerOf M) (source : SourceOf I) (sink : SinkOf O) (plugin : PluginOf P) (engine : EngineOf G) (err : SinkOf E) where
  abbrev World : Type 0
  World = Lent H V M I O P G × Saying E

  abbrev whole : Moves Call Answer World
  whole = on_lent shelf vault maker source sink plugin engine err

  abbrev files_in : World → Files
  files_in w = shelf.files w.0.0.0.0.1

  abbrev data_in : World → Contents
  data_in w = vault.contents w.0.0.0.1

  abbrev Later : World → World → Type 0
  Later u v = IsLater shelf vault maker source sink plugin engine err u v

  abbrev Quiet : World → World → Type 0
  Quiet u v = Unraised shelf vault maker source sink plugin engine err u v

  abbrev counts : Counting World
  counts = counting shelf vault maker source sink plugin engine err

  -- words that are spelled change nothing
  unspelled : (u : World) (words : List Word) (x : Answer (spells words)) (v : World) → whole u (spells words) x v → IsSpelled words x × (v ≡ u)
  unspelled u words x v (inr (m, a)) = absurd m
  unspelled u words x v (inl (inr (m, a), b)) = absurd m
  unspelled u words x v (inl (inl (inr (m, a), b), c)) = absurd m
  unspelled u words x v (inl (inl (inl (inr (m, a), b), c), d)) = absurd m
  unspelled u words x v (inl (inl (inl (inl (inr (m, z), a), b), c), d)) = absurd m
  unspelled u words x v (inl (inl (inl (inl (inl (m, z), a), b), c), d)) = (m, pair (pair (pair (pair (pair refl z) a) b) c) d)

  folds-later : (ls : List (List ℕ)) (u v : World) (d : Result (List (Unit {0})) PlainWhy) → Folds whole IsNoMemory line_step ls u d v → Later u v
  folds-later [] u v d h = ends-later whole IsNoMemory counts (later shelf vault maker source sink plugin engine err) (give []) u v d h
  folds-later (l ∷ ls) u v d (inl (b, mid, rest, first, more, is)) =
      counts.onward (ends-later whole IsNoMemory counts (later shelf vault maker source sink plugin engine err) (line_step l) u mid (Ok b) first) (folds-later ls mid v rest more)
  folds-later (l ∷ ls) u v d (inr (why, first, is)) = ends-later whole IsNoMemory counts (later shelf vault maker source sink plugin engine err) (line_step l) u v (Err why) first

  module _ (completes : Completes) (one : OneReading) (law : MadeAreRead) (once : IsOneCommand)
      (small : (words : List Word) (seed size : ℕ) → IsCommand (plain.make seed size) words → size ≤ 16000) (files : shelf.tells) where
    line-well : (line : List ℕ) (u v : World) (d : Result (Unit {0}) PlainWhy) → IsReadyLine (files_in u) (data_in u) line → Quiet u v → Ends whole IsNoMemory (line_step line) u d v → EndsWell d
    line-well line u v d h n k = runs-well shelf vault maker source sink plugin engine err (line_step line) u v d files n.0 n.1 (line-yields line) (line-sure completes one law once small line (held shelf vault maker source sink plugin engine err u) h) k

    lines-end : (ls : List (List ℕ)) (u v : World) (d : Result (List (Unit {0})) PlainWhy) → AreReady whole files_in data_in ls u → Quiet u v → Folds whole IsNoMemory line_step ls u d v → EndsWell d
    lines-end [] u v d h n (inl s) = well-so s.is s.wanting
    lines-end [] u v d h n (inr (is, same)) = well-so is tt
    lines-end (l ∷ ls) u v d h n (inl (b, mid, rest, first, more, is)) =
        let early = ends-later whole IsNoMemory counts (later shelf vault maker source sink plugin engine err) (line_step l) u mid (Ok b) first in
        well-so is (with-first b rest (lines-end ls mid v rest (h.1 mid (record { ends = first })) (counts.after early (folds-later ls mid v rest more) n) more))
    lines-end (l ∷ ls) u v d h n (inr (why, first, is)) = well-so is (line-well l u v (Err why) h.0 n first)

    script-well : (name : Word) (u v : World) (e : Result Answered PlainWhy) → IsReadyScript whole files_in data_in name u → Quiet u v → Follows whole IsNoMemory (script name) u e v → EndsWell e
    script-well name u v e h n f = by (law_of_fold whole name u e v f)
      where
        t : Holding
        t = held shelf vault maker source sink plugin engine err u

        by : ((why : PlainWhy) × Follows whole IsNoMemory (script_text name) u (Err why) v × (e ≡ Err why))
            ⊎ ((text : List ℕ) × (mid : World) × Follows whole IsNoMemory (script_text name) u (Ok text) mid × IsFold whole (lines text) mid e v) → EndsWell e
        by (inl (why, g, is)) = well-so is (runs-well shelf vault maker source sink plugin engine err (script_text name) u v (Err why) files n.0 n.1 (text-yields name)
            (sure-all told (λ b w. b ≡ h.bytes) (λ b w. Unit {0}) (script_text name) t (λ b w. tt) (text-sure t name h.bytes h.file h.text h.short)) g.ends)
        by (inr (text, mid, g, fold)) =
            let early = ends-later whole IsNoMemory counts (later shelf vault maker source sink plugin engine err) (script_text name) u mid (Ok text) g.ends in
            let late = folds-later (lines text) mid v fold.told fold.folds in
            let plain_told = told-of (telling shelf vault maker source sink plugin engine err files) IsNoMemory (script_text name) u mid (Ok text) (text-yields name) tt (counts.before early late n) g.ends in
            let same : text ≡ h.bytes = sure-gives told (λ b w. b ≡ h.bytes) (script_text name) t (held shelf vault maker source sink plugin engine err mid) text plain_told (text-sure t name h.bytes h.file h.text h.short) in
            lines-well fold.told e fold.ends
            (lines-end (lines text) mid v fold.told
            (subst (λ b. AreReady whole files_in data_in (lines b) mid) (sym same) (h.ready mid (subst (λ b. Follows whole IsNoMemory (script_text name) u (Ok b) mid) same g)))
            (counts.after early late n) fold.folds)

    spelled-well : (words : List Word) (name : Word) (x : Answer (spells words)) (u v : World) (e : Result Answered PlainWhy) → IsCommand (plain.script name) words → IsSpelled words x → IsReadyScript whole files_in data_in name u → Quiet u v
        → Ends whole IsNoMemory (bind (given_or usage x) doing) u e v → EndsWell e
    spelled-well words name (Ok c) u v e is s h n k = script-well name u v e h n (record { ends = subst (λ b. Ends whole IsNoMemory (doing b) u e v) (once words c (plain.script name) s is) k })
    spelled-well words name (Err i) u v e is s h n k = absurd (s.0 (plain.script name) is)

    step-well : (words : List Word) (name : Word) (u v : World) (e : Result Answered PlainWhy) → IsCommand (plain.script name) words → IsReadyScript whole files_in data_in name u → Quiet u v → Ends whole IsNoMemory (step words) u e v → EndsWell e
    step-well words name u v e is h n (inl s) = well-so s.is s.wanting
    step-well words name u v e is h n (inr (x, mid, m, rest)) =
        let read = unspelled u words x mid m in
        spelled-well words name x u v e is read.0 h n (subst (λ w. Ends whole IsNoMemory (bind (given_or usage x) doing) w e v) read.1 rest)

module _ (completes : Completes) (one : OneReading) (law : MadeAreRead) (once : IsOneCommand)
    (small : (words : List Word) (seed size : ℕ) → IsCommand (plain.make seed size) words → size ≤ 16000)
    {H V M I O P G E : Type 0} (shelf : ShelfOf H) (vault : VaultOf V) (maker : MakerOf M) (source : SourceOf I) (sink : SinkOf O) (plugin : PluginOf P) (engine : EngineOf G) (err : SinkOf E) where
  pub complete-script : ScriptLaw shelf vault maker source sink plugin engine err
  complete-script words name old new said spoken e is h files data_told none f =
      step-well shelf vault maker source sink plugin engine err completes one law once small files words name (old, said) (new, spoken) e is h (data_told, none) f.ends
