-- Plugins that are asked in turn are left, or stay.
use Rattle.std.proofs.Common.{◌≡◌, inl, inr, ℕ, true, false, List, [], ◌∷◌, ◌++◌, Option, Some, None, refl, ap, sym, subst}
use Rattle.cov_event.specs.declared.ask.Ask.{Ghosts as HookOf}
use Rattle.cov_event.specs.declared.event.Event.{Event}
use Rattle.cov_event.specs.declared.event.Event.TheVariants.{Call, Line, Throw, Return}
use Rattle.cov_contexts.specs.declared.plugins.Plugin.{Ghosts as PluginOf}
use Rattle.cov_contexts.specs.Asking.{LabelRefused}
use Rattle.cov_contexts.specs.Plugins.{PluginsGive, PluginsGiveAfter, PluginsStop}
use Rattle.cov_contexts.specs.Sources.{Sources}
use Rattle.cov_recorder.specs.Asking.{asks, AskRefused, SourcesLeft}
use Rattle.cov_recorder.specs.Labels.{question, GetsLabel, Labelled}
use Rattle.cov_recorder.specs.Plan.{Named, Plan}
use Rattle.cov_recorder.specs.Recording.{Open, Recording, label_now}
use Rattle.cov_measure_laws.specs.Leaving.{Question, Stays, Leaves, AreLeft, LeavingLaw}

module _ {P : Type 0} (plugin : PluginOf P) where
  stays-append : (p q r : P) (xs ys : List Question) → Stays plugin p xs q → Stays plugin q ys r → Stays plugin p (xs ++ ys) r
  stays-append p q r [] ys h k = subst (λ o. Stays plugin o ys r) h k
  stays-append p q r (x ∷ xs) ys h k = (h.0, h.1, stays-append h.0 q r xs ys h.2 k)

  leaves-after : (p q : P) (xs : List Question) → Stays plugin p xs q → Leaves plugin q → Leaves plugin p
  leaves-after p q xs h k = record {
    answered = xs ++ k.answered;
    mid = k.mid;
    stays = stays-append p q k.mid xs k.answered h k.stays;
    «module» = k.module;
    function = k.function;
    new = k.new;
    left = k.left;
  }

  -- no plugin was asked
  pub as-before : (ps : List P) → AreLeft plugin ps ps
  as-before [] = refl
  as-before (p ∷ ps) = inr (p, ps, [], refl, as-before ps, refl)

  pub same-list : (old new : List P) → new ≡ old → AreLeft plugin old new
  same-list old new e = subst (λ ps. AreLeft plugin old ps) (sym e) (as-before old)

  -- a plugin stays, and then more is asked
  after-stay : (p q : P) (xs : List Question) (ps rest new : List P) → Stays plugin p xs q → ((last : List P) → AreLeft plugin rest last → AreLeft plugin ps last) → AreLeft plugin (q ∷ rest) new → AreLeft plugin (p ∷ ps) new
  after-stay p q xs ps rest new h f (inl g) = inl (leaves-after p q xs h g.0, f new g.1)
  after-stay p q xs ps rest new h f (inr g) = inr (g.0, g.1, xs ++ g.2, stays-append p q g.0 xs g.2 h g.3, f g.1 g.4, g.5)

  -- some were asked, and then more of those that are left
  pub one-after : (old mid new : List P) → AreLeft plugin old mid → AreLeft plugin mid new → AreLeft plugin old new
  one-after [] mid new h k = subst (λ ps. AreLeft plugin ps new) h k
  one-after (p ∷ ps) mid new (inl h) k = inl (h.0, one-after ps mid new h.1 k)
  one-after (p ∷ ps) mid new (inr h) k = after-stay p h.0 h.2 ps h.1 new h.3 (λ last l. one-after ps h.1 last h.4 l) (subst (λ qs. AreLeft plugin qs new) h.5 k)

  -- others after them
  before-others : (old new others : List P) → AreLeft plugin old new → AreLeft plugin (old ++ others) (new ++ others)
  before-others [] new others h = subst (λ ps. AreLeft plugin others (ps ++ others)) (sym h) (as-before others)
  before-others (p ∷ ps) new others (inl h) = inl (h.0, before-others ps new others h.1)
  before-others (p ∷ ps) new others (inr h) = inr (h.0, h.1 ++ others, h.2, h.3, before-others ps h.1 others h.4, ap (λ qs. qs ++ others) h.5)

  -- ---- one question

  given : (m f : List ℕ) (old : List P) (label : Option (List ℕ)) (new : List P) → PluginsGive plugin m f old label new → AreLeft plugin old new
  given m f [] label new h = h.1
  given m f (p ∷ ps) label new (inl h) =
      inl (record { answered = []; mid = p; stays = refl; «module» = m; function = f; new = h.0; left = h.1 }, given m f ps label new h.2)
  given m f (p ∷ ps) label new (inr (inl h)) =
      inr (h.0, h.1, record { «module» = m; function = f; label = None } ∷ [], (h.0, h.2, refl), given m f ps label h.1 h.3, h.4)
  given m f (p ∷ ps) label new (inr (inr h)) =
      inr (h.0, ps, record { «module» = m; function = f; label = Some h.1 } ∷ [], (h.0, h.2, refl), as-before ps, h.4)

  given-after : (of_hook : Option (List ℕ)) (m f : List ℕ) (old : List P) (label : Option (List ℕ)) (new : List P) → PluginsGiveAfter of_hook plugin m f old label new → AreLeft plugin old new
  given-after None m f old label new h = given m f old label new h
  given-after (Some text) m f old label new h = same-list old new h.1

  stopped : (m f : List ℕ) (old new : List P) → PluginsStop plugin m f old new → AreLeft plugin old new
  stopped m f old new h =
      subst (λ ps. AreLeft plugin ps new) (sym h.3)
      (subst (λ ps. AreLeft plugin (h.0 ++ h.2) ps) (sym h.5) (before-others h.0 h.1 h.2 (given m f h.0 None h.1 h.4)))

module _ {A P : Type 0} (hook : HookOf A) (plugin : PluginOf P) where
  abbrev Left : Sources A P → Sources A P → Type 0
  Left old new = AreLeft plugin old.plugins new.plugins

  unchanged : (old new : Sources A P) → new ≡ old → Left old new
  unchanged old new e = same-list plugin old.plugins new.plugins (ap (λ (s : Sources A P). s.plugins) e)

  labelled : (outer : Option (List ℕ)) (names : Option Named) (old : Sources A P) (label : Option (List ℕ)) (new : Sources A P) → GetsLabel (asks hook plugin) outer names old label new → Left old new
  labelled (Some outer) names old label new h = unchanged old new h.1
  labelled None None old label new h = unchanged old new h.1
  labelled None (Some unit) old label new h = given-after plugin h.of_hook unit.module unit.function old.plugins h.of_plugins new.plugins h.by_plugins

  moved : (plan : Plan) (frames : List Open) (event : Event) (old : Sources A P) (label : Option (List ℕ)) (new : Sources A P) → Labelled (asks hook plugin) plan frames event old label new → Left old new
  moved plan frames (Call code) old label new h = labelled (label_now frames) (question plan code) old label new h
  moved plan frames (Line line) old label new h = unchanged old new h.1
  moved plan frames (Throw kind) old label new h = unchanged old new h.1
  moved plan frames Return old label new h = unchanged old new h.1

  -- ---- a question that was refused

  given-up : (m f : List ℕ) (old new : Sources A P) → LabelRefused hook plugin m f old new → Left old new
  given-up m f old new h = elim h.stops [
    | inl k ↦ same-list plugin old.plugins new.plugins k.1
    | inr k ↦ stopped plugin m f old.plugins new.plugins k.1
  ]

  ask-refused : (names : Option Named) (old new : Sources A P) → AskRefused hook plugin names old new → Left old new
  ask-refused None old new h = absurd h
  ask-refused (Some unit) old new h = given-up unit.module unit.function old new h

  refused : (plan : Plan) (frames : List Open) (event : Event) (old new : Sources A P) → SourcesLeft hook plugin plan frames event old new → Left old new
  refused plan frames (Call code) old new (inl h) = ask-refused (question plan code) old new h
  refused plan frames (Call code) old new (inr h) = labelled (label_now frames) (question plan code) old h.0 new h.1
  refused plan frames (Line line) old new h = absurd h
  refused plan frames (Throw kind) old new h = absurd h
  refused plan frames Return old new h = absurd h

  -- ---- all that a recorder was told

  pub leaving_law : {S : Type 0} (state : S → Recording × Sources A P) → LeavingLaw hook plugin state
  leaving_law state old new [] h = unchanged (state old).1 (state new).1 (ap (λ s. (state s).1) h)
  leaving_law state old new ((event, true) ∷ calls) h =
      one-after plugin (state old).1.plugins (state h.0).1.plugins (state new).1.plugins
      (moved (state old).0.plan (state old).0.frames event (state old).1 h.1.0 (state h.0).1 h.1.1) (leaving_law state h.0 new calls h.2)
  leaving_law state old new ((event, false) ∷ calls) h =
      one-after plugin (state old).1.plugins (state h.0).1.plugins (state new).1.plugins
      (refused (state old).0.plan (state old).0.frames event (state old).1 (state h.0).1 h.1.1) (leaving_law state h.0 new calls h.2)
