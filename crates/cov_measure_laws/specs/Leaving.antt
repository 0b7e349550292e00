-- What becomes of a list of plugins that are asked: some leave, and the others stay.
--     Question, verdict_of     a question and its answer, by a label or none
--     Stays, Leaves            a plugin that was asked questions
--     AreLeft                  the plugins that are left of a list
--     LeavingLaw               so it is of a recorder, whatever it was told
use Rattle.std.specs.Prelude.{◌≡◌, ◌⊎◌, ℕ, Bool, List, [], ◌∷◌, Option, Some, None}
use Rattle.cov_event.specs.declared.ask.Ask.{Ghosts as HookOf}
use Rattle.cov_event.specs.declared.event.Event.{Event}
use Rattle.cov_event.specs.declared.plugin.Verdict.{Verdict}
use Rattle.cov_event.specs.declared.plugin.Verdict.TheVariants.{Quiet, Label, Leave}
use Rattle.cov_event.specs.Moves.{Calls}
use Rattle.cov_contexts.specs.declared.plugins.Plugin.{Ghosts as PluginOf}
use Rattle.cov_contexts.specs.Sources.{Sources}
use Rattle.cov_recorder.specs.Asking.{asks, SourcesLeft}
use Rattle.cov_recorder.specs.Labels.{IsNext, IsRefused}
use Rattle.cov_recorder.specs.Recording.{Recording}

-- a question, by the names of a module and of a function, and the label that was given, if any was
pub record Question : Type 0 where
  pub «module» : List ℕ
  pub function : List ℕ
  pub label : Option (List ℕ)

-- the answer that gives it, and doesn't leave
abbrev pub verdict_of : Option (List ℕ) → Verdict
verdict_of None = Quiet
verdict_of (Some text) = Label text

-- the plugin answered these questions, one after another, and stayed
abbrev pub Stays : {P : Type 0} → PluginOf P → P → List Question → P → Type 0
Stays plugin old [] new = new ≡ old
Stays {P} plugin old (q ∷ rest) new =
    (mid : P) × plugin.moves old q.module q.function (verdict_of q.label) mid
    × Stays plugin mid rest new

-- it answered questions, none or more, and the next one by leaving
pub record Leaves {P : Type 0} (plugin : PluginOf P) (old : P) : Type 0 where
  pub answered : List Question
  pub mid : P
  pub stays : Stays plugin old answered mid
  pub «module» : List ℕ
  pub function : List ℕ
  pub new : P
  pub left : plugin.moves mid «module» function Leave new

-- Of each plugin, in their order: it left and is dropped, or it stays in the state that its answers
-- gave.
abbrev pub AreLeft : {P : Type 0} → PluginOf P → List P → List P → Type 0
AreLeft plugin [] new = new ≡ []
AreLeft {P} plugin (p ∷ ps) new =
    (Leaves plugin p × AreLeft plugin ps new)
    ⊎ ((q : P) × (rest : List P) × (answered : List Question) × Stays plugin p answered q
    × AreLeft plugin ps rest × (new ≡ q ∷ rest))

-- Whatever a recorder was told, and whatever it refused, its plugins are those that are left.
abbrev pub LeavingLaw : {S A P : Type 0} → HookOf A → PluginOf P
    → (S → Recording × Sources A P) → Type 0
LeavingLaw {S} hook plugin state =
    (old new : S) (calls : List (Event × Bool))
    → Calls (λ before event later. IsNext (asks hook plugin) (state before) event (state later))
    (λ before event later.
    IsRefused (SourcesLeft hook plugin) (state before) event (state later))
    old calls new
    → AreLeft plugin (state old).1.plugins (state new).1.plugins
