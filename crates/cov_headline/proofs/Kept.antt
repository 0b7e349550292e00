-- Where the data come from that are kept, command by command.
use Rattle.std.proofs.Common.{◌≡◌, ◌≢◌, inl, inr, ◌∙◌, ℕ, ◌<◌, ◌++◌, Bool, true, false, true≢false, not, cond, if◌then◌else◌, refl, sym, ap, subst, List, [], ◌∷◌, map, Contains, length, Option, Some, None, arith}
use Rattle.std.specs.Prelude.{◌⊎◌, ◌||◌, codes}
use Rattle.std.specs.Bool.{beq}
use Rattle.std.specs.FinMap as finite
use Rattle.std.specs.FinMap.{get-insert}
use Rattle.std.specs.List.{fold, list_any}
use Rattle.std.specs.Ordering.{eq_by_cmp}
use Rattle.std.specs.Str.{bytes_eq}
use Rattle.std.proofs.lemmas.List.Elements.{Contains-append_right}
use Rattle.std.proofs.lemmas.Slice.Eq.{bytes_eq-Decides}
use Rattle.cov_outside.specs.Files.{with_file}
use Rattle.cov_contexts.specs.declared.plugins.Plugin.{Ghosts as PluginOf}
use Rattle.cov_analysis.specs.Analyses.{AnalysisView}
use Rattle.cov_combine.specs.Aliases.{Rules, alias_of, rules_from}
use Rattle.cov_combine.specs.Combined.{flag_of, combined}
use Rattle.cov_config.specs.Settings.{ReportSettings}
use Rattle.cov_data.specs.DataSet.{DataSet, text_cmp, union}
use Rattle.cov_data.proofs.FileViews.{text_cmp_total}
use Rattle.cov_json.specs.Json.{json_bytes}
use Rattle.cov_lcov.specs.Lcov.{lcov_bytes}
use Rattle.cov_vault.specs.Contents.{Contents}
use Rattle.cov_vault.specs.declared.vault.Content.TheVariants.{Good}
use Rattle.cov_words.specs.Commands.{PlainCommand}
use Rattle.cov_words.specs.Commands as plain
use Rattle.cov_words.specs.Values.{Word}
use Rattle.cov_step.specs.Calls.{Answered, Asked, TestsAsked}
use Rattle.cov_step.specs.Commands.{asked_by, hook_named}
use Rattle.cov_step.specs.Names.{or_else}
use Rattle.cov_step.specs.Phases as phases
use Rattle.cov_step.specs.Testing.{tests_asked}
use Rattle.cov_suite.specs.Tests.{tests_of}
use Rattle.cov_headline.specs.Commands.{Loses, Promise, runs_of}
use Rattle.cov_headline.specs.Kept.{Recorded, IsFrom, AreFrom, AreKept}
use Rattle.cov_headline.specs.Origins.{PlainRun, Origin, found, ran, joined, united, Origins, no_more, and_of, data_of, datas_of, IsRecorded, IsOf, AreOf}
use Rattle.cov_headline.specs.Promises.{patterns_of, run_of, AddsTo, RunPromise, HasOwn, HasInputs, names_with_data, CombinePromise, with_text, PutPromise}
use Rattle.cov_headline.specs.Suites.{import_run, test_run, suite_runs, AreRecorded, paired, SuitePromise}
use Rattle.cov_headline.specs.Told.{Held}
use Rattle.cov_headline.proofs.Joining.{combined-kind}
use Rattle.cov_headline.proofs.Lists.{as-first, as-later}
use Rattle.cov_headline.proofs.Losing.{loses-none}

some-same : {A : Type 0} {a b : A} → ◌≡◌ {A = Option A} (Some a) (Some b) → a ≡ b
some-same e = cc

none-some : {A : Type 0} {a : A} → ◌≡◌ {A = Option A} None (Some a) → ⊥
none-some e = cc

good-same : {d e : DataSet} → Good d ≡ Good e → d ≡ e
good-same h = cc

-- ---- more runs

mutual
  from-more : (first : Contents) (more runs : Recorded) (o : Origin) → IsFrom first runs o → IsFrom first (more ++ runs) o
  from-more first more runs (found d) h = h
  from-more first more runs (ran r rows) h = Contains-append_right more runs (r, rows) h
  from-more first more runs (joined old new) h = (from-more first more runs old h.0, from-more first more runs new h.1)
  from-more first more runs (united rules one others) h = (from-more first more runs one h.0, froms-more first more runs others h.1)

  froms-more : (first : Contents) (more runs : Recorded) (os : Origins) → AreFrom first runs os → AreFrom first (more ++ runs) os
  froms-more first more runs no_more h = tt
  froms-more first more runs (and_of o rest) h = (from-more first more runs o h.0, froms-more first more runs rest h.1)

pub kept-more : (first : Contents) (more runs : Recorded) (now : Contents) → AreKept first runs now → AreKept first (more ++ runs) now
kept-more first more runs now k name d e = let x = k name d e in (x.0, x.1, x.2, from-more first more runs x.0 x.3)

-- what was there at first
pub kept-first : (first : Contents) → AreKept first [] first
kept-first first name d e = (found d, refl, refl, (name, e))

-- some are gone
pub kept-less : (first : Contents) (runs : Recorded) (old new : Contents) → AreKept first runs old → Loses old new → AreKept first runs new
kept-less first runs old new k l name d e = elim (l name) [
  | inl same ↦ k name d (sym same ∙ e)
  | inr gone ↦ absurd (none-some (sym gone ∙ e))
]

-- ---- a run

module _ (first : Contents) (r : PlainRun) (rows : DataSet) (arcs : Bool) (kind : rows.arcs ≡ arcs) (recorded : IsRecorded r rows) (runs : Recorded) (old : Contents) (k : AreKept first runs old) where
  abbrev Kept : DataSet → Type 0
  Kept d = (o : Origin) × (data_of o ≡ d) × IsOf d.arcs o × IsFrom first ((r, rows) ∷ runs) o

  -- the rows of a run, joined to what stood there
  joined-rows : (append : Bool) (own : Word) (before : Option DataSet) → AddsTo append arcs (finite.get old own) before → Kept (phases.joined before rows)
  joined-rows append own None adds = (ran r rows, refl, (refl, recorded), as-first (r, rows) runs)
  joined-rows append own (Some d) adds =
      let x = k own d adds.1 in (
        joined x.0 (ran r rows),
        ap (λ e. union e rows) x.1,
        (x.2, (kind ∙ sym adds.2, recorded)),
        (from-more first ((r, rows) ∷ []) runs x.0 x.3, as-first (r, rows) runs),
      )

  saved-rows : (append : Bool) (own : Word) (before : Option DataSet) (new : Contents) → AddsTo append arcs (finite.get old own) before → new ≡ finite.insert old own (Good (phases.joined before rows)) → AreKept first ((r, rows) ∷ runs) new
  saved-rows append own before new adds saved name d e = by (eq_by_cmp text_cmp name own) (ap (λ c. finite.get c name) saved ∙ get-insert text_cmp_total old own (Good (phases.joined before rows)) name)
    where
      by : (b : Bool) → finite.get new name ≡ cond b (Some (Good (phases.joined before rows))) (finite.get old name) → Kept d
      by true at = subst (λ y. Kept y) (good-same (some-same (sym at ∙ e))) (joined-rows append own before adds)
      by false at = let x = k name d (sym at ∙ e) in (x.0, x.1, x.2, from-more first ((r, rows) ∷ []) runs x.0 x.3)

-- ---- tests

-- each of these runs is among others
abbrev AreAmong : Recorded → Recorded → Type 0
AreAmong all [] = Unit {0}
AreAmong all (x ∷ xs) = Contains all x × AreAmong all xs

among-later : (x : PlainRun × DataSet) (all xs : Recorded) → AreAmong all xs → AreAmong (x ∷ all) xs
among-later x all [] h = tt
among-later x all (y ∷ ys) h = (as-later x all y h.0, among-later x all ys h.1)

among-front : (xs ys : Recorded) → AreAmong (xs ++ ys) xs
among-front [] ys = tt
among-front (x ∷ xs) ys = (as-first x (xs ++ ys), among-later x (xs ++ ys) xs (among-front xs ys))

union-kind : (d : DataSet) (ds : List DataSet) → (fold union d ds).arcs ≡ d.arcs
union-kind d [] = refl
union-kind d (e ∷ ds) = union-kind (union d e) ds

-- the data of runs, one after another
joined-all : (first : Contents) (all : Recorded) (arcs : Bool) (rs : List PlainRun) (ds : List DataSet) → AreRecorded arcs rs ds → AreAmong all (paired rs ds) → (o : Origin) → IsOf arcs o → IsFrom first all o
    → (q : Origin) × (data_of q ≡ fold union (data_of o) ds) × IsOf arcs q × IsFrom first all q
joined-all first all arcs [] [] h a o of from = (o, refl, of, from)
joined-all first all arcs [] (d ∷ ds) h a o of from = absurd h
joined-all first all arcs (r ∷ rs) [] h a o of from = absurd h
joined-all first all arcs (r ∷ rs) (d ∷ ds) h a o of from = joined-all first all arcs rs ds h.2 a.1 (joined o (ran r d)) (of, (h.0, h.1)) (from, a.0)

-- ---- a combine

-- each of these data is held by some name
abbrev AllHeld : Contents → List DataSet → Type 0
AllHeld held [] = Unit {0}
AllHeld held (d ∷ ds) = ((name : Word) × (finite.get held name ≡ Some (Good d))) × AllHeld held ds

inputs-held : (held : Contents) (names : List Word) (ds : List DataSet) → HasInputs held names ds → AllHeld held ds
inputs-held held [] [] h = tt
inputs-held held [] (d ∷ ds) h = absurd h
inputs-held held (n ∷ ns) [] h = absurd h
inputs-held held (n ∷ ns) (d ∷ ds) h = ((n, h.0), inputs-held held ns ds h.1)

with-own : (held : Contents) (append : Bool) (own : Word) (first rest : List DataSet) → HasOwn append (finite.get held own) first → AllHeld held rest → AllHeld held (first ++ rest)
with-own held append own [] rest h all = all
with-own held append own (d ∷ []) rest h all = ((own, h.1), all)
with-own held append own (d ∷ e ∷ ds) rest h all = absurd (two h.2)
  where
    two : e ∷ ds ≡ [] → ⊥
    two x = cc

-- data of one kind
abbrev AllOf : Bool → List DataSet → Type 0
AllOf kind [] = Unit {0}
AllOf kind (d ∷ ds) = (d.arcs ≡ kind) × AllOf kind ds

one-kind : (kind : Bool) (d : DataSet) (ds : List DataSet) (more : Bool) → (more ≡ false → AllOf kind ds) → (a b : Bool) → d.arcs ≡ a → kind ≡ b → (not (beq a b) || more) ≡ false → AllOf kind (d ∷ ds)
one-kind kind d ds more rest true true x y g = (x ∙ sym y, rest g)
one-kind kind d ds more rest false false x y g = (x ∙ sym y, rest g)
one-kind kind d ds more rest true false x y g = absurd (true≢false g)
one-kind kind d ds more rest false true x y g = absurd (true≢false g)

same-kind : (kind : Bool) (ds : List DataSet) → list_any (λ d. not (beq d.arcs kind)) ds ≡ false → AllOf kind ds
same-kind kind [] h = tt
same-kind kind (d ∷ ds) h = one-kind kind d ds (list_any (λ d. not (beq d.arcs kind)) ds) (same-kind kind ds) d.arcs kind refl refl h

module _ (first : Contents) (runs : Recorded) (old : Contents) (k : AreKept first runs old) (kind : Bool) where
  -- their origins
  origins : (ds : List DataSet) → AllHeld old ds → AllOf kind ds → (os : Origins) × (datas_of os ≡ ds) × AreOf kind os × AreFrom first runs os
  origins [] h a = (no_more, refl, tt, tt)
  origins (d ∷ ds) h a =
      let x = k h.0.0 d h.0.1 in
      let rest = origins ds h.1 a.1 in (
        and_of x.0 rest.0,
        (λ i. x.1 i ∷ rest.1 i),
        (subst (λ b. IsOf b x.0) a.0 x.2, rest.2),
        (x.3, rest.3),
      )

  combined-origin : (rules : Rules) (ds : List DataSet) → 0 < length ds → AllHeld old ds → AllOf kind ds
      → (o : Origin) × (data_of o ≡ combined (alias_of rules) ds) × IsOf (combined (alias_of rules) ds).arcs o × IsFrom first runs o
  combined-origin rules [] some h a = absurd (omega (arith, some))
  combined-origin rules (d ∷ ds) some h a =
      let x = k h.0.0 d h.0.1 in
      let rest = origins ds h.1 a.1 in
      let of : (combined (alias_of rules) (d ∷ ds)).arcs ≡ kind = combined-kind (alias_of rules) (d ∷ ds) ∙ a.0 in (
        united rules x.0 rest.0,
        (λ i. combined (alias_of rules) (x.1 i ∷ rest.1 i)),
        subst (λ b. IsOf b (united rules x.0 rest.0)) (sym of) (subst (λ b. IsOf b x.0) a.0 x.2, rest.2),
        (x.3, rest.3),
      )

-- is it this name
one-name : (name own : Word) → (name ≡ own) ⊎ (name ≢ own)
one-name name own = by (bytes_eq name own) refl
  where
    by : (b : Bool) → bytes_eq name own ≡ b → (name ≡ own) ⊎ (name ≢ own)
    by true e = inl ((bytes_eq-Decides name own).0 e)
    by false e = inr (λ same. true≢false (sym ((bytes_eq-Decides name own).1 same) ∙ e))

module _ {P : Type 0} (plugin : PluginOf P) (first : Contents) (runs : Recorded) where
  kept-run : (asked : Asked) (own script : Word) (append : Bool) (hook : Option (Word × Word)) (old : Held P) (a : Answered) (new : Held P) → AreKept first runs old.contents → (p : RunPromise plugin asked own script append hook old a new)
      → AreKept first ((run_of asked p.modules old.left, p.rows) ∷ runs) new.contents
  kept-run asked own script append hook old a new k p =
      saved-rows first (run_of asked p.modules old.left) p.rows asked.arcs p.kind p.recorded runs old.contents k append own p.before new.contents p.adds p.saved

  kept-combine : (own : Word) (rules : Rules) (append : Bool) (named : List Word) (old : Held P) (a : Answered) (new : Held P) → AreKept first runs old.contents → CombinePromise own rules append named old a new → AreKept first runs new.contents
  kept-combine own rules append named old a new k p name d e = by (one-name name own)
    where
      by : (name ≡ own) ⊎ (name ≢ own) → (o : Origin) × (data_of o ≡ d) × IsOf d.arcs o × IsFrom first runs o
      by (inl same) =
          let all = with-own old.contents append own p.first p.rest p.has_own (inputs-held old.contents (names_with_data own named old.contents) p.rest p.has_rest) in
          let x = combined-origin first runs old.contents k (flag_of (p.first ++ p.rest)) rules (p.first ++ p.rest) p.some all (same-kind (flag_of (p.first ++ p.rest)) (p.first ++ p.rest) p.one_kind) in
          let is : combined (alias_of rules) (p.first ++ p.rest) ≡ d = good-same (some-same (sym p.saved ∙ ap (λ n. finite.get new.contents n) (sym same) ∙ e)) in
          (x.0, x.1 ∙ is, subst (λ (y : DataSet). IsOf y.arcs x.0) is x.2, x.3)
      by (inr apart) = elim (p.others name apart) [
        | inl same ↦ k name d (sym same ∙ e)
        | inr gone ↦ absurd (none-some (sym gone ∙ e))
      ]

  -- a text that is put
  kept-text : (name : Word) (bytes : List ℕ) (old new : Held P) → AreKept first runs old.contents → new ≡ with_text name bytes old → AreKept first runs new.contents
  kept-text name bytes old new k e = kept-less first runs old.contents new.contents k (loses-none old.contents new.contents (by (bytes_eq name (codes "-")) e))
    where
      by : (dash : Bool) → new ≡ (if dash then record old { out = old.out ++ bytes } else record old { files = with_file name bytes old.files }) → new.contents ≡ old.contents
      by true f = ap (λ (w : Held P). w.contents) f
      by false f = ap (λ (w : Held P). w.contents) f

  kept-put : (s : ReportSettings) (own name : Word) (bytes : List AnalysisView → Bool → List ℕ) (least : ℕ) (old : Held P) (a : Answered) (new : Held P) → AreKept first runs old.contents → PutPromise first runs s own name bytes least old a new → AreKept first runs new.contents
  kept-put s own name bytes least old a new k p = kept-text name (bytes (map (phases.analysed (patterns_of s) p.reported.d) p.reported.sources) p.reported.d.arcs) old new k p.put

  kept-suite : (asked : TestsAsked) (own file : Word) (old : Held P) (a : Answered) (new : Held P) → AreKept first runs old.contents → (p : SuitePromise plugin asked own file old a new)
      → AreKept first (paired (suite_runs p.modules asked.budget) (p.of_import ∷ p.of_tests) ++ runs) new.contents
  kept-suite asked own file old a new k p name d e = by (eq_by_cmp text_cmp name own) (ap (λ c. finite.get c name) p.saved ∙ get-insert text_cmp_total old.contents own (Good (fold union p.of_import p.of_tests)) name)
    where
      from-its : (o : Origin) × (data_of o ≡ fold union p.of_import p.of_tests) × IsOf (fold union p.of_import p.of_tests).arcs o × IsFrom first (paired (suite_runs p.modules asked.budget) (p.of_import ∷ p.of_tests) ++ runs) o
      from-its =
          let all = paired (suite_runs p.modules asked.budget) (p.of_import ∷ p.of_tests) ++ runs in
          let among = among-front (paired (suite_runs p.modules asked.budget) (p.of_import ∷ p.of_tests)) runs in
          let q = joined-all first all asked.arcs (map (test_run p.modules asked.budget) (tests_of p.modules)) p.of_tests p.recorded.2 among.1 (ran (import_run p.modules asked.budget) p.of_import) (p.recorded.0, p.recorded.1) among.0 in
          (q.0, q.1, subst (λ b. IsOf b q.0) (sym (union-kind p.of_import p.of_tests ∙ p.recorded.0)) q.2, q.3)

      by : (b : Bool) → finite.get new.contents name ≡ cond b (Some (Good (fold union p.of_import p.of_tests))) (finite.get old.contents name)
          → (o : Origin) × (data_of o ≡ d) × IsOf d.arcs o × IsFrom first (paired (suite_runs p.modules asked.budget) (p.of_import ∷ p.of_tests) ++ runs) o
      by true at = subst (λ (y : DataSet). (o : Origin) × (data_of o ≡ y) × IsOf y.arcs o × IsFrom first (paired (suite_runs p.modules asked.budget) (p.of_import ∷ p.of_tests) ++ runs) o) (good-same (some-same (sym at ∙ e))) from-its
      by false at = let x = k name d (sym at ∙ e) in (x.0, x.1, x.2, from-more first (paired (suite_runs p.modules asked.budget) (p.of_import ∷ p.of_tests)) runs x.0 x.3)

  -- what a command promises keeps it
  pub promise-keeps : (c : PlainCommand) (old : Held P) (a : Answered) (new : Held P) (p : Promise plugin first runs c old a new) → AreKept first runs old.contents → AreKept first (runs_of plugin first runs c old a new p ++ runs) new.contents
  promise-keeps (plain.arcs budget script args) old a new p k = kept-less first runs old.contents new.contents k p
  promise-keeps (plain.run branch append context budget hook data_file rcfile script args) old a new p k =
      kept-run (asked_by p.0 branch context budget script args) (phases.own_name data_file p.0) script append (hook_named hook p.0.run.hook) old a new k p.2
  promise-keeps (plain.combine append keep data_file rcfile names) old a new p k = kept-combine (phases.own_name data_file p.0) (rules_from p.0.paths) append names old a new k p.2
  promise-keeps (plain.report show_missing fail_under data_file rcfile) old a new p k =
      kept-less first runs old.contents new.contents k (loses-none old.contents new.contents (ap (λ (w : Held P). w.contents) p.2.printed))
  promise-keeps (plain.json name fail_under data_file rcfile) old a new p k =
      kept-put p.0.report (phases.own_name data_file p.0) (or_else name (codes "coverage.json")) json_bytes (or_else fail_under p.0.report.fail_under) old a new k p.2
  promise-keeps (plain.lcov name fail_under data_file rcfile) old a new p k =
      kept-put p.0.report (phases.own_name data_file p.0) (or_else name (codes "coverage.lcov")) lcov_bytes (or_else fail_under p.0.report.fail_under) old a new k p.2
  promise-keeps (plain.annotate data_file rcfile file) old a new p k = kept-less first runs old.contents new.contents k p
  promise-keeps (plain.erase data_file rcfile) old a new p k = kept-less first runs old.contents new.contents k p
  promise-keeps (plain.script file) old a new p k = absurd p
  promise-keeps (plain.make seed size) old a new p k = kept-less first runs old.contents new.contents k p
  promise-keeps (plain.suite branch budget data_file rcfile file) old a new p k = kept-suite (tests_asked p.0 branch budget) (phases.own_name data_file p.0) file old a new k p.2
  promise-keeps (plain.select budget old_file new_file) old a new p k = kept-less first runs old.contents new.contents k (loses-none old.contents new.contents (ap (λ (w : Held P). w.contents) p.printed))
  promise-keeps (plain.mutate budget file) old a new p k = kept-less first runs old.contents new.contents k (loses-none old.contents new.contents (ap (λ (w : Held P). w.contents) p.printed))
