-- Who is asked for the label of a call, in which order, and what becomes of those who were asked.
--     HookGives, HookRefused      the hook gives a label or none; or it is refused
--     Labels                      all are asked, and the first label wins
--     LabelRefused                one of them is refused
use Rattle.std.specs.Prelude.{◌≡◌, ◌⊎◌, ℕ, List, Option, Some, None}
use Rattle.std.specs.Option.{option_or}
use Rattle.cov_event.specs.declared.ask.Ask.{Ghosts as HookOf}
use Rattle.cov_contexts.specs.declared.plugins.Plugin.{Ghosts as PluginOf}
use Rattle.cov_contexts.specs.Names.{label_by_name}
use Rattle.cov_contexts.specs.Plugins.{PluginsGiveAfter, PluginsStop}
use Rattle.cov_contexts.specs.Sources.{Sources}

-- a hook gives a label or none, and there is none without a hook
abbrev pub HookGives : {A : Type 0} → HookOf A → List ℕ → List ℕ →
    Option A → Option (List ℕ) → Option A → Type 0
HookGives hook «module» function None label new = (label ≡ None) × (new ≡ None)
HookGives {A} hook «module» function (Some a) label new =
    (b : A) × (new ≡ Some b) × hook.moves a «module» function label b

-- a hook is refused
abbrev pub HookRefused : {A : Type 0} → HookOf A → Option A → Option A → Type 0
HookRefused hook None new = ⊥
HookRefused {A} hook (Some a) new = (b : A) × (new ≡ Some b) × hook.refused a b

-- The label of a function is the hook's, or else the plugins', or else the name rule's.
pub record Labels {A P : Type 0} (hook : HookOf A) (plugin : PluginOf P)
    («module» function : List ℕ) (old : Sources A P) (label : Option (List ℕ))
    (new : Sources A P) : Type 0 where
  pub of_hook : Option (List ℕ)
  pub of_plugins : Option (List ℕ)
  pub by_hook : HookGives hook «module» function old.hook of_hook new.hook
  pub by_plugins :
      PluginsGiveAfter of_hook plugin «module» function old.plugins of_plugins new.plugins
  pub first_wins :
      let of_name = label_by_name old.by_name «module» function in
      label ≡ option_or of_hook (option_or of_plugins of_name)
  pub rule : new.by_name ≡ old.by_name

-- The hook is refused, or it gives no label and then a plugin or the name rule is refused. Those
-- that answered before keep the states that their answers gave.
pub record LabelRefused {A P : Type 0} (hook : HookOf A) (plugin : PluginOf P)
    («module» function : List ℕ) (old new : Sources A P) : Type 0 where
  pub stops :
      (HookRefused hook old.hook new.hook × (new.plugins ≡ old.plugins))
      ⊎ (HookGives hook «module» function old.hook None new.hook
      × PluginsStop plugin «module» function old.plugins new.plugins)
  pub rule : new.by_name ≡ old.by_name
