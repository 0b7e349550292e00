-- What becomes of plugins that are asked in turn about a function of a module.
--     PluginsGive         plugins give a label or none
--     PluginsGiveAfter    so they do, where nobody before them gave a label
--     PluginsStop         the first ones give none, and the others are as before
use Rattle.std.specs.Prelude.{◌≡◌, ◌⊎◌, ℕ, List, [], ◌∷◌, ◌++◌, Option, Some, None}
use Rattle.cov_event.specs.declared.plugin.Verdict.TheVariants.{Quiet, Label, Leave}
use Rattle.cov_contexts.specs.declared.plugins.Plugin.{Ghosts as PluginOf}

-- each plugin in turn leaves or is quiet, until one gives a label; those after it are as before
abbrev pub PluginsGive : {P : Type 0} → PluginOf P → List ℕ → List ℕ →
    List P → Option (List ℕ) → List P → Type 0
PluginsGive plugin «module» function [] label new = (label ≡ None) × (new ≡ [])
PluginsGive {P} plugin «module» function (p ∷ ps) label new =
    ((q : P) × plugin.moves p «module» function Leave q
    × PluginsGive plugin «module» function ps label new)
    ⊎ (((q : P) × (rest : List P) × plugin.moves p «module» function Quiet q
    × PluginsGive plugin «module» function ps label rest × (new ≡ q ∷ rest))
    ⊎ ((q : P) × (text : List ℕ) × plugin.moves p «module» function (Label text) q
    × (label ≡ Some text) × (new ≡ q ∷ ps)))

-- where there is a label before them, the plugins aren't asked and are as before
abbrev pub PluginsGiveAfter : {P : Type 0} → Option (List ℕ) → PluginOf P → List ℕ → List ℕ →
    List P → Option (List ℕ) → List P → Type 0
PluginsGiveAfter None plugin «module» function old label new =
    PluginsGive plugin «module» function old label new
PluginsGiveAfter (Some text) plugin «module» function old label new = (label ≡ None) × (new ≡ old)

-- the first ones, asked in turn, give no label, and the others are as before
abbrev pub PluginsStop : {P : Type 0} → PluginOf P → List ℕ → List ℕ →
    List P → List P → Type 0
PluginsStop {P} plugin «module» function old new =
    (asked kept others : List P) × (old ≡ asked ++ others)
    × PluginsGive plugin «module» function asked None kept × (new ≡ kept ++ others)
