-- Data of events where there is no hook, no plugin and no rule for names.
use Rattle.std.proofs.Common.{◌≡◌, ℕ, Bool, false, List, [], ◌∷◌, Option, Some, None, refl, sym, ap, subst, ◌∙◌}
use Rattle.std.specs.Option.{option_or}
use Rattle.cov_contexts.specs.Asking.{Labels}
use Rattle.cov_contexts.specs.Plugins.{PluginsGiveAfter}
use Rattle.cov_contexts.specs.Sources.{Sources}
use Rattle.cov_contexts.specs.declared.plugins.Plugin.{Ghosts as PluginOf}
use Rattle.cov_data.specs.DataSet.{DataSet, Text}
use Rattle.cov_data.specs.Rows.{RowView}
use Rattle.cov_event.specs.declared.event.Event.{Event}
use Rattle.cov_event.specs.declared.event.Event.TheVariants.{Call, Line, Throw, Return}
use Rattle.cov_hook_laws.specs.MeantHooks.{MeantHook}
use Rattle.cov_measure.specs.Measures.{sources_of}
use Rattle.cov_measure_laws.specs.Meant.{meant_hook}
use Rattle.cov_measure_laws.specs.Whole.{IsDataOf, TellsAll}
use Rattle.cov_recorder.specs.Asking.{asks}
use Rattle.cov_recorder.specs.Labels.{GetsLabel, Labelled, question}
use Rattle.cov_recorder.specs.Plan.{Named, Plan}
use Rattle.cov_recorder.specs.Recording.{Open, after, label_now}
use Rattle.cov_streams.specs.Trials.{no_labels}

are-so : {A P : Type 0} (s : Sources A P) (hook : Option A) (plugins : List P) (by_name : Bool)
    → s.hook ≡ hook → s.plugins ≡ plugins → s.by_name ≡ by_name
    → s ≡ record { hook = hook; plugins = plugins; by_name = by_name }
are-so s hook plugins by_name h p b = rw (sym h, sym p, sym b) refl

module _ {P : Type 0} (plugin : PluginOf P) where
  -- nobody
  abbrev pub nobody : Sources MeantHook P
  nobody = sources_of None [] false

  -- whoever is asked
  abbrev Asks : Sources MeantHook P → Text → Text → Option (List ℕ) → Sources MeantHook P → Type 0
  Asks = asks meant_hook plugin

  no-label : (m f : Text) (label : Option (List ℕ)) (new : Sources MeantHook P)
      → Labels meant_hook plugin m f nobody label new → (label ≡ None) × (new ≡ nobody)
  no-label m f label new l =
      let p = subst (λ o. PluginsGiveAfter o plugin m f [] l.of_plugins new.plugins) l.by_hook.0
      l.by_plugins in (
        l.first_wins ∙ ap (λ o. option_or o (option_or l.of_plugins None)) l.by_hook.0
            ∙ ap (λ o. option_or None (option_or o None)) p.0,
        are-so new None [] false l.by_hook.1 p.1 l.rule,
      )

  of-label : (outer : Option (List ℕ)) (names : Option Named) (label : Option (List ℕ))
      (new : Sources MeantHook P) → GetsLabel Asks outer names nobody label new
      → GetsLabel no_labels outer names tt label tt × (new ≡ nobody)
  of-label (Some outer) names label new h = ((h.0, refl), h.1)
  of-label None None label new h = ((h.0, refl), h.1)
  of-label None (Some unit) label new h = no-label unit.module unit.function label new h

  labelled-so : (plan : Plan) (frames : List Open) (event : Event) (label : Option (List ℕ))
      (new : Sources MeantHook P) → Labelled Asks plan frames event nobody label new
      → Labelled no_labels plan frames event tt label tt × (new ≡ nobody)
  labelled-so plan frames (Call code) label new h =
      of-label (label_now frames) (question plan code) label new h
  labelled-so plan frames (Line line) label new h = ((h.0, refl), h.1)
  labelled-so plan frames (Throw kind) label new h = ((h.0, refl), h.1)
  labelled-so plan frames Return label new h = ((h.0, refl), h.1)

  tells-so : (plan : Plan) (frames : List Open) (events : List Event) (rows : List RowView)
      (new : Sources MeantHook P) → TellsAll Asks plan frames nobody events rows new
      → TellsAll no_labels plan frames tt events rows tt
  tells-so plan frames [] rows new h = (h.0, refl)
  tells-so plan frames (event ∷ rest) rows new (label, mid, later, labelled, told, is) =
      let l = labelled-so plan frames event label mid labelled in (
        label,
        tt,
        later,
        l.0,
        tells-so plan (after label frames event) rest later new
            (subst (λ s. TellsAll Asks plan (after label frames event) s rest later new) l.1 told),
        is,
      )

  pub data-so : (plan : Plan) (events : List Event) (d : DataSet) (new : Sources MeantHook P)
      → IsDataOf Asks plan nobody events d new → IsDataOf no_labels plan tt events d tt
  data-so plan events d new h = record {
    rows = h.rows;
    told = tells-so plan [] events h.rows new h.told;
    counted = h.counted;
  }
