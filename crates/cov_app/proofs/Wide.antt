-- Programs over some objects of a command, among all of them.
use Rattle.std.proofs.Common.{◌≡◌, inl, inr, refl, sym, ap, subst, List, Result}
use Rattle.cov_contexts.specs.declared.plugins.Plugin.{Ghosts as PluginOf}
use Rattle.cov_exclude.specs.declared.maker.Maker.{Ghosts as MakerOf}
use Rattle.cov_outside.specs.declared.shelf.Shelf.{Ghosts as ShelfOf}
use Rattle.cov_outside.specs.declared.sink.Sink.{Ghosts as SinkOf}
use Rattle.cov_outside.specs.declared.source.Source.{Ghosts as SourceOf}
use Rattle.py_machine.specs.declared.engine.Engine.{Ghosts as EngineOf}
use Rattle.cov_measure.specs.Measures.{Streams, streams}
use Rattle.cov_programs.specs.Ends.{Follows}
use Rattle.cov_programs.specs.Objects.{beside}
use Rattle.cov_programs.proofs.Composing.{among}
use Rattle.cov_reports.specs.Objects.{on_report}
use Rattle.cov_step.specs.Calls.{Call, spells, checks, reads, puts, opens, lists, loads, saves, removes, makes, writes, crosses, measures, tries, tests, selects, judges, says, Answer, Step, IsNoMemory}
use Rattle.cov_step.specs.Objects.{on_grammar, on_shelf, on_vault, on_maker, on_sink, on_err, Saying}
use Rattle.cov_streams.specs.Objects.{on_run}
use Rattle.cov_streams.specs.Suites.{on_plugins}
use Rattle.cov_streams.specs.Trials.{on_trial}
use Rattle.cov_suites.specs.Views.{on_suite}
use Rattle.cov_vault.specs.declared.vault.Vault.{Ghosts as VaultOf}
use Rattle.cov_why.specs.Answers.{PlainWhy}
use Rattle.cov_app.specs.Objects.{all_of, on_all}

-- what an output answers, it answers beside an input, plugins and an engine
widen : {I O P G : Type 0} (source : SourceOf I) (sink : SinkOf O) (plugin : PluginOf P) (engine : EngineOf G) (i : I) (ps : List P) (g : G) (u : O) (call : Call) (x : Answer call) (v : O)
    → on_sink sink u call x v → on_run source sink plugin engine (streams i u ps g) call x (streams i v ps g)
widen source sink plugin engine i ps g u (spells words) x v m = absurd m
widen source sink plugin engine i ps g u (checks bytes) x v m = absurd m
widen source sink plugin engine i ps g u (reads name most) x v m = absurd m
widen source sink plugin engine i ps g u (puts name bytes) x v m = absurd m
widen source sink plugin engine i ps g u (opens name script) x v m = absurd m
widen source sink plugin engine i ps g u lists x v m = absurd m
widen source sink plugin engine i ps g u (loads name) x v m = absurd m
widen source sink plugin engine i ps g u (saves name content) x v m = absurd m
widen source sink plugin engine i ps g u (removes name) x v m = absurd m
widen source sink plugin engine i ps g u (makes texts) x v m = absurd m
widen source sink plugin engine i ps g u (writes bytes) x v m = record { wrote = m; same = refl }
widen source sink plugin engine i ps g u (crosses modules words budget) x v m = absurd m
widen source sink plugin engine i ps g u (measures asked modules hook) x v m = absurd m
widen source sink plugin engine i ps g u (tries modules words budget) x v m = absurd m
widen source sink plugin engine i ps g u (tests asked modules) x v m = absurd m
widen source sink plugin engine i ps g u (selects budget before after) x v m = absurd m
widen source sink plugin engine i ps g u (judges budget modules) x v m = absurd m
widen source sink plugin engine i ps g u (says text) x v m = absurd m

-- what plugins answer, they answer beside an input, an output and an engine
ask-widely : {I O P G : Type 0} (source : SourceOf I) (sink : SinkOf O) (plugin : PluginOf P) (engine : EngineOf G) (i : I) (o : O) (g : G) (u : List P) (call : Call) (x : Answer call) (v : List P)
    → on_plugins plugin u call x v → on_run source sink plugin engine (streams i o u g) call x (streams i o v g)
ask-widely source sink plugin engine i o g u (spells words) x v m = absurd m
ask-widely source sink plugin engine i o g u (checks bytes) x v m = absurd m
ask-widely source sink plugin engine i o g u (reads name most) x v m = absurd m
ask-widely source sink plugin engine i o g u (puts name bytes) x v m = absurd m
ask-widely source sink plugin engine i o g u (opens name script) x v m = absurd m
ask-widely source sink plugin engine i o g u lists x v m = absurd m
ask-widely source sink plugin engine i o g u (loads name) x v m = absurd m
ask-widely source sink plugin engine i o g u (saves name content) x v m = absurd m
ask-widely source sink plugin engine i o g u (removes name) x v m = absurd m
ask-widely source sink plugin engine i o g u (makes texts) x v m = absurd m
ask-widely source sink plugin engine i o g u (writes bytes) x v m = absurd m
ask-widely source sink plugin engine i o g u (crosses modules words budget) x v m = absurd m
ask-widely source sink plugin engine i o g u (measures asked modules hook) x v m = absurd m
ask-widely source sink plugin engine i o g u (tries modules words budget) x v m = absurd m
ask-widely source sink plugin engine i o g u (tests asked modules) x v m = record { ran = m; same = refl }
ask-widely source sink plugin engine i o g u (selects budget before after) x v m = absurd m
ask-widely source sink plugin engine i o g u (judges budget modules) x v m = absurd m
ask-widely source sink plugin engine i o g u (says text) x v m = absurd m

module _ {H V M I O P G : Type 0} (shelf : ShelfOf H) (vault : VaultOf V) (maker : MakerOf M) (source : SourceOf I) (sink : SinkOf O) (plugin : PluginOf P) (engine : EngineOf G) where
  -- ---- what words are

  words-moved : (h : H) (v : V) (m : M) (s : Streams I O P G) (u : Unit {0}) (call : Call) (x : Answer call) (w : Unit {0}) → on_grammar u call x w → on_all shelf vault maker source sink plugin engine (all_of h v m s) call x (all_of h v m s)
  words-moved h v m s u call x w a = inl (inl (inl (inl (a, refl), refl), refl), refl)

  pub wide-words : {A : Type 0} {p : Step A} {e : Result A PlainWhy} (h : H) (v : V) (m : M) (s : Streams I O P G) → Follows on_grammar IsNoMemory p tt e tt
      → Follows (on_all shelf vault maker source sink plugin engine) IsNoMemory p (all_of h v m s) e (all_of h v m s)
  wide-words h v m s f = among on_grammar (on_all shelf vault maker source sink plugin engine) IsNoMemory (λ u. all_of h v m s) (words-moved h v m s) f

  -- ---- a shelf and a vault

  data-moved : (m : M) (s : Streams I O P G) (u : H × V) (call : Call) (x : Answer call) (w : H × V) → beside (on_shelf shelf) (on_vault vault) u call x w
      → on_all shelf vault maker source sink plugin engine (all_of u.0 u.1 m s) call x (all_of w.0 w.1 m s)
  data-moved m s u call x w (inl (a, same)) = inl (inl (inl (inr (a, refl), same), refl), refl)
  data-moved m s u call x w (inr (a, same)) = inl (inl (inr (a, ap (λ h. (tt, h)) same), refl), refl)

  pub wide-data : {A : Type 0} {p : Step A} {e : Result A PlainWhy} {h k : H} {v w : V} (m : M) (s : Streams I O P G) → Follows (beside (on_shelf shelf) (on_vault vault)) IsNoMemory p (h, v) e (k, w)
      → Follows (on_all shelf vault maker source sink plugin engine) IsNoMemory p (all_of h v m s) e (all_of k w m s)
  wide-data m s f = among (beside (on_shelf shelf) (on_vault vault)) (on_all shelf vault maker source sink plugin engine) IsNoMemory (λ (u : H × V). all_of u.0 u.1 m s) (data-moved m s) f

  -- ---- a shelf, a vault, a maker and an output

  report-moved : (i : I) (ps : List P) (g : G) (u : ((H × V) × M) × O) (call : Call) (x : Answer call) (w : ((H × V) × M) × O) → on_report shelf vault maker sink u call x w
      → on_all shelf vault maker source sink plugin engine (all_of u.0.0.0 u.0.0.1 u.0.1 (streams i u.1 ps g)) call x (all_of w.0.0.0 w.0.0.1 w.0.1 (streams i w.1 ps g))
  report-moved i ps g u call x w (inl (inl (inl (a, v), m), o)) = inl (inl (inl (inr (a, refl), v), m), ap (λ y. streams i y ps g) o)
  report-moved i ps g u call x w (inl (inl (inr (a, h), m), o)) = inl (inl (inr (a, ap (λ y. (tt, y)) h), m), ap (λ y. streams i y ps g) o)
  report-moved i ps g u call x w (inl (inr (a, d), o)) = inl (inr (a, ap (λ (y : H × V). ((tt, y.0), y.1)) d), ap (λ y. streams i y ps g) o)
  report-moved i ps g u call x w (inr (a, d)) = inr (widen source sink plugin engine i ps g u.1 call x w.1 a, ap (λ (y : (H × V) × M). (((tt, y.0.0), y.0.1), y.1)) d)

  pub wide-report : {A : Type 0} {p : Step A} {e : Result A PlainWhy} {h k : H} {v w : V} {m n : M} {o q : O} (i : I) (ps : List P) (g : G) → Follows (on_report shelf vault maker sink) IsNoMemory p (((h, v), m), o) e (((k, w), n), q)
      → Follows (on_all shelf vault maker source sink plugin engine) IsNoMemory p (all_of h v m (streams i o ps g)) e (all_of k w n (streams i q ps g))
  wide-report i ps g f = among (on_report shelf vault maker sink) (on_all shelf vault maker source sink plugin engine) IsNoMemory (λ (u : ((H × V) × M) × O). all_of u.0.0.0 u.0.0.1 u.0.1 (streams i u.1 ps g)) (report-moved i ps g) f

  -- ---- a shelf and streams

  arcs-moved : (v : V) (m : M) (u : H × Streams I O P G) (call : Call) (x : Answer call) (w : H × Streams I O P G) → beside (on_shelf shelf) (on_run source sink plugin engine) u call x w
      → on_all shelf vault maker source sink plugin engine (all_of u.0 v m u.1) call x (all_of w.0 v m w.1)
  arcs-moved v m u call x w (inl (a, s)) = inl (inl (inl (inr (a, refl), refl), refl), s)
  arcs-moved v m u call x w (inr (a, h)) = inr (a, ap (λ y. (((tt, y), v), m)) h)

  pub wide-arcs : {A : Type 0} {p : Step A} {e : Result A PlainWhy} {h k : H} {s t : Streams I O P G} (v : V) (m : M) → Follows (beside (on_shelf shelf) (on_run source sink plugin engine)) IsNoMemory p (h, s) e (k, t)
      → Follows (on_all shelf vault maker source sink plugin engine) IsNoMemory p (all_of h v m s) e (all_of k v m t)
  wide-arcs v m f = among (beside (on_shelf shelf) (on_run source sink plugin engine)) (on_all shelf vault maker source sink plugin engine) IsNoMemory (λ (u : H × Streams I O P G). all_of u.0 v m u.1) (arcs-moved v m) f

  -- ---- a shelf, a vault and streams

  run-moved : (m : M) (u : (H × V) × Streams I O P G) (call : Call) (x : Answer call) (w : (H × V) × Streams I O P G) → beside (beside (on_shelf shelf) (on_vault vault)) (on_run source sink plugin engine) u call x w
      → on_all shelf vault maker source sink plugin engine (all_of u.0.0 u.0.1 m u.1) call x (all_of w.0.0 w.0.1 m w.1)
  run-moved m u call x w (inl (inl (a, v), s)) = inl (inl (inl (inr (a, refl), v), refl), s)
  run-moved m u call x w (inl (inr (a, h), s)) = inl (inl (inr (a, ap (λ y. (tt, y)) h), refl), s)
  run-moved m u call x w (inr (a, d)) = inr (a, ap (λ (y : H × V). (((tt, y.0), y.1), m)) d)

  pub wide-run : {A : Type 0} {p : Step A} {e : Result A PlainWhy} {h k : H} {v w : V} {s t : Streams I O P G} (m : M) → Follows (beside (beside (on_shelf shelf) (on_vault vault)) (on_run source sink plugin engine)) IsNoMemory p ((h, v), s) e ((k, w), t)
      → Follows (on_all shelf vault maker source sink plugin engine) IsNoMemory p (all_of h v m s) e (all_of k w m t)
  wide-run m f = among (beside (beside (on_shelf shelf) (on_vault vault)) (on_run source sink plugin engine)) (on_all shelf vault maker source sink plugin engine) IsNoMemory (λ (u : (H × V) × Streams I O P G). all_of u.0.0 u.0.1 m u.1) (run-moved m) f

  -- ---- a shelf, a vault, an output and plugins

  suite-moved : (m : M) (i : I) (g : G) (u : (H × V) × (O × List P)) (call : Call) (x : Answer call) (w : (H × V) × (O × List P)) → on_suite shelf vault sink plugin u call x w
      → on_all shelf vault maker source sink plugin engine (all_of u.0.0 u.0.1 m (streams i u.1.0 u.1.1 g)) call x (all_of w.0.0 w.0.1 m (streams i w.1.0 w.1.1 g))
  suite-moved m i g u call x w (inl (inl (a, v), s)) = inl (inl (inl (inr (a, refl), v), refl), ap (λ (y : O × List P). streams i y.0 y.1 g) s)
  suite-moved m i g u call x w (inl (inr (a, h), s)) = inl (inl (inr (a, ap (λ y. (tt, y)) h), refl), ap (λ (y : O × List P). streams i y.0 y.1 g) s)
  suite-moved m i g u call x w (inr (inl (a, p), d)) =
      inr (subst (λ ps. on_run source sink plugin engine (streams i u.1.0 u.1.1 g) call x (streams i w.1.0 ps g)) (sym p) (widen source sink plugin engine i u.1.1 g u.1.0 call x w.1.0 a), ap (λ (y : H × V). (((tt, y.0), y.1), m)) d)
  suite-moved m i g u call x w (inr (inr (a, o), d)) =
      inr (subst (λ y. on_run source sink plugin engine (streams i u.1.0 u.1.1 g) call x (streams i y w.1.1 g)) (sym o) (ask-widely source sink plugin engine i u.1.0 g u.1.1 call x w.1.1 a), ap (λ (y : H × V). (((tt, y.0), y.1), m)) d)

  pub wide-suite : {A : Type 0} {p : Step A} {e : Result A PlainWhy} {h k : H} {v w : V} {o q : O} {ps qs : List P} (m : M) (i : I) (g : G) → Follows (on_suite shelf vault sink plugin) IsNoMemory p ((h, v), (o, ps)) e ((k, w), (q, qs))
      → Follows (on_all shelf vault maker source sink plugin engine) IsNoMemory p (all_of h v m (streams i o ps g)) e (all_of k w m (streams i q qs g))
  wide-suite m i g f = among (on_suite shelf vault sink plugin) (on_all shelf vault maker source sink plugin engine) IsNoMemory (λ (u : (H × V) × (O × List P)). all_of u.0.0 u.0.1 m (streams i u.1.0 u.1.1 g)) (suite-moved m i g) f

  -- ---- a shelf

  shelf-moved : (v : V) (m : M) (s : Streams I O P G) (u : H) (call : Call) (x : Answer call) (w : H) → on_shelf shelf u call x w → on_all shelf vault maker source sink plugin engine (all_of u v m s) call x (all_of w v m s)
  shelf-moved v m s u call x w a = inl (inl (inl (inr (a, refl), refl), refl), refl)

  pub wide-shelf : {A : Type 0} {p : Step A} {e : Result A PlainWhy} {h k : H} (v : V) (m : M) (s : Streams I O P G) → Follows (on_shelf shelf) IsNoMemory p h e k
      → Follows (on_all shelf vault maker source sink plugin engine) IsNoMemory p (all_of h v m s) e (all_of k v m s)
  wide-shelf v m s f = among (on_shelf shelf) (on_all shelf vault maker source sink plugin engine) IsNoMemory (λ u. all_of u v m s) (shelf-moved v m s) f

  -- ---- an output

  out-moved : (h : H) (v : V) (m : M) (i : I) (ps : List P) (g : G) (u : O) (call : Call) (x : Answer call) (w : O) → on_sink sink u call x w
      → on_all shelf vault maker source sink plugin engine (all_of h v m (streams i u ps g)) call x (all_of h v m (streams i w ps g))
  out-moved h v m i ps g u call x w a = inr (widen source sink plugin engine i ps g u call x w a, refl)

  -- an output, and `err` beside all
  pub wide-ended : {E A : Type 0} (err : SinkOf E) {p : Step A} {e : Result A PlainWhy} {o q : O} {t w : Saying E} (h : H) (v : V) (m : M) (i : I) (ps : List P) (g : G) → Follows (beside (on_sink sink) (on_err err)) IsNoMemory p (o, t) e (q, w)
      → Follows (beside (on_all shelf vault maker source sink plugin engine) (on_err err)) IsNoMemory p (all_of h v m (streams i o ps g), t) e (all_of h v m (streams i q ps g), w)
  wide-ended {E = E} err h v m i ps g f = among (beside (on_sink sink) (on_err err)) (beside (on_all shelf vault maker source sink plugin engine) (on_err err)) IsNoMemory (λ (u : O × Saying E). (all_of h v m (streams i u.0 ps g), u.1)) moved f
    where
      moved : (u : O × Saying E) (call : Call) (x : Answer call) (w : O × Saying E) → beside (on_sink sink) (on_err err) u call x w
          → beside (on_all shelf vault maker source sink plugin engine) (on_err err) (all_of h v m (streams i u.0 ps g), u.1) call x (all_of h v m (streams i w.0 ps g), w.1)
      moved u call x w (inl (a, same)) = inl (out-moved h v m i ps g u.0 call x w.0 a, same)
      moved u call x w (inr (a, same)) = inr (a, ap (λ y. all_of h v m (streams i y ps g)) same)

  -- ---- a made source, a maker and an output

  trial-in : (i : I) (ps : List P) (g : G) (a b : ((Unit {0} × H) × V) × M) (o q : O) (call : Call) (x : Answer call) → b ≡ a → q ≡ o → on_trial tt call x tt
      → on_all shelf vault maker source sink plugin engine (a, streams i o ps g) call x (b, streams i q ps g)
  trial-in i ps g a b o q (spells words) x ab so m = absurd m
  trial-in i ps g a b o q (checks bytes) x ab so m = inl (inl (inl (inl (m, ap (λ y. y.0.0.1) ab), ap (λ y. y.0.1) ab), ap (λ y. y.1) ab), ap (λ y. streams i y ps g) so)
  trial-in i ps g a b o q (reads name most) x ab so m = absurd m
  trial-in i ps g a b o q (puts name bytes) x ab so m = absurd m
  trial-in i ps g a b o q (opens name script) x ab so m = absurd m
  trial-in i ps g a b o q lists x ab so m = absurd m
  trial-in i ps g a b o q (loads name) x ab so m = absurd m
  trial-in i ps g a b o q (saves name content) x ab so m = absurd m
  trial-in i ps g a b o q (removes name) x ab so m = absurd m
  trial-in i ps g a b o q (makes texts) x ab so m = absurd m
  trial-in i ps g a b o q (writes bytes) x ab so m = absurd m
  trial-in i ps g a b o q (crosses modules words budget) x ab so m = absurd m
  trial-in i ps g a b o q (measures asked modules hook) x ab so m = absurd m
  trial-in i ps g a b o q (tries modules words budget) x ab so m = inr (record { tried = m.tried; same = ap (λ y. streams i y ps g) so }, ab)
  trial-in i ps g a b o q (tests asked modules) x ab so m = absurd m
  trial-in i ps g a b o q (selects budget before after) x ab so m = inr (record { selected = m.selected; same = ap (λ y. streams i y ps g) so }, ab)
  trial-in i ps g a b o q (judges budget modules) x ab so m = inr (record { judged = m.judged; same = ap (λ y. streams i y ps g) so }, ab)
  trial-in i ps g a b o q (says text) x ab so m = absurd m

  made-moved : (h : H) (v : V) (i : I) (ps : List P) (g : G) (u : (Unit {0} × M) × O) (call : Call) (x : Answer call) (w : (Unit {0} × M) × O) → beside (beside on_trial (on_maker maker)) (on_sink sink) u call x w
      → on_all shelf vault maker source sink plugin engine (all_of h v u.0.1 (streams i u.1 ps g)) call x (all_of h v w.0.1 (streams i w.1 ps g))
  made-moved h v i ps g u call x w (inl (inl (a, m), o)) = trial-in i ps g (((tt, h), v), u.0.1) (((tt, h), v), w.0.1) u.1 w.1 call x (ap (λ y. (((tt, h), v), y)) m) o a
  made-moved h v i ps g u call x w (inl (inr (a, t), o)) = inl (inr (a, refl), ap (λ y. streams i y ps g) o)
  made-moved h v i ps g u call x w (inr (a, d)) = inr (widen source sink plugin engine i ps g u.1 call x w.1 a, ap (λ (y : Unit {0} × M). (((tt, h), v), y.1)) d)

  pub wide-made : {A : Type 0} {p : Step A} {e : Result A PlainWhy} {m n : M} {o q : O} (h : H) (v : V) (i : I) (ps : List P) (g : G) → Follows (beside (beside on_trial (on_maker maker)) (on_sink sink)) IsNoMemory p ((tt, m), o) e ((tt, n), q)
      → Follows (on_all shelf vault maker source sink plugin engine) IsNoMemory p (all_of h v m (streams i o ps g)) e (all_of h v n (streams i q ps g))
  wide-made h v i ps g f = among (beside (beside on_trial (on_maker maker)) (on_sink sink)) (on_all shelf vault maker source sink plugin engine) IsNoMemory (λ (u : (Unit {0} × M) × O). all_of h v u.0.1 (streams i u.1 ps g)) (made-moved h v i ps g) f

  -- ---- a shelf, tests of changes and an output

  changes-moved : (v : V) (m : M) (i : I) (ps : List P) (g : G) (u : (H × Unit {0}) × O) (call : Call) (x : Answer call) (w : (H × Unit {0}) × O) → beside (beside (on_shelf shelf) on_trial) (on_sink sink) u call x w
      → on_all shelf vault maker source sink plugin engine (all_of u.0.0 v m (streams i u.1 ps g)) call x (all_of w.0.0 v m (streams i w.1 ps g))
  changes-moved v m i ps g u call x w (inl (inl (a, t), o)) = inl (inl (inl (inr (a, refl), refl), refl), ap (λ y. streams i y ps g) o)
  changes-moved v m i ps g u call x w (inl (inr (a, h), o)) = trial-in i ps g (((tt, u.0.0), v), m) (((tt, w.0.0), v), m) u.1 w.1 call x (ap (λ y. (((tt, y), v), m)) h) o a
  changes-moved v m i ps g u call x w (inr (a, d)) = inr (widen source sink plugin engine i ps g u.1 call x w.1 a, ap (λ (y : H × Unit {0}). (((tt, y.0), v), m)) d)

  pub wide-changes : {A : Type 0} {p : Step A} {e : Result A PlainWhy} {h k : H} {o q : O} (v : V) (m : M) (i : I) (ps : List P) (g : G) → Follows (beside (beside (on_shelf shelf) on_trial) (on_sink sink)) IsNoMemory p ((h, tt), o) e ((k, tt), q)
      → Follows (on_all shelf vault maker source sink plugin engine) IsNoMemory p (all_of h v m (streams i o ps g)) e (all_of k v m (streams i q ps g))
  wide-changes v m i ps g f = among (beside (beside (on_shelf shelf) on_trial) (on_sink sink)) (on_all shelf vault maker source sink plugin engine) IsNoMemory (λ (u : (H × Unit {0}) × O). all_of u.0.0 v m (streams i u.1 ps g)) (changes-moved v m i ps g) f
