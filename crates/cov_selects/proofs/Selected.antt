-- What was selected are the tests that must run again.
use Rattle.std.proofs.Common.{◌≡◌, ℕ, Bool, true, false, List, [], ◌∷◌, map, length, String, Global, Result, Ok, Err, MatchResult, encode_utf8_all, string_bytes, refl, ap, sym, subst, ◌∙◌}
use Rattle.std.specs.List.{filter}
use Rattle.std.proofs.lemmas.List.{length-map}
use Rattle.std.proofs.lemmas.Str.{IsUtf8-string_bytes, encodes-chars, encodes_same}
use Rattle.cov_contexts.specs.declared.plugins.Plugin.{Ghosts as PluginOf}
use Rattle.cov_data.specs.DataSet.{Text as Bytes}
use Rattle.cov_run.specs.Loads.{loaded_pairs}
use Rattle.cov_select.specs.Chosen.{ChosenInSuite}
use Rattle.cov_select.specs.Paths.{module_beside, modules_beside}
use Rattle.cov_streams.specs.Retests.{SelectedAs}
use Rattle.cov_suite.specs.declared.results.SuiteError.{SuiteError}
use Rattle.cov_suite.specs.declared.results.SuiteError.TheVariants.{NotImported, NoMemory}
use Rattle.cov_suite.specs.declared.results.SuiteRun.{SuiteRun}
use Rattle.cov_suite.specs.Meant.{SuiteOf}
use Rattle.cov_suite.specs.Tests.{tests_of}
use Rattle.cov_suite.specs.Views.{plain_answer}
use Rattle.cov_verdicts.specs.Chosen.{IsChosen}
use Rattle.cov_verdicts.specs.Regular.{AreRegular}
use Rattle.py_code.specs.declared.code.Program.{Program}
use Rattle.py_meaning.specs.Modules.{LoadedModule}
use Rattle.py_syntax.specs.declared.stmt.Module.{Module}
use Rattle.py_syntax.specs.Tree.{Text}
use Rattle.cov_selects.specs.declared.choosing.Selection.{Selection}
use Rattle.cov_selects.specs.Views.{name_view, came_of, IsSelected}

-- programs beside their trees are the loaded modules
pub loaded-beside : (ps : List Program) (ts : List Module) → modules_beside ps ts ≡ loaded_pairs ps ts
loaded-beside [] ts = refl
loaded-beside (p ∷ ps) [] = refl
loaded-beside (p ∷ ps) (t ∷ ts) = ap (λ ms. module_beside p t ∷ ms) (loaded-beside ps ts)

-- names of the bytes of texts are these texts
pub names-of : (names : List (String Global)) (texts : List Text) → map string_bytes names ≡ map encode_utf8_all texts → map name_view names ≡ texts
names-of [] [] e = refl
names-of [] (x ∷ xs) e = absurd cc
names-of (n ∷ ns) [] e = absurd cc
names-of (n ∷ ns) (x ∷ xs) e =
    let first : string_bytes n ≡ encode_utf8_all x = cc in
    let rest : map string_bytes ns ≡ map encode_utf8_all xs = cc in
    ap (λ t. t ∷ map name_view ns) (encodes_same (name_view n) x (encodes-chars (string_bytes n) (IsUtf8-string_bytes n) ∙ first)) ∙ ap (λ ts. x ∷ ts) (names-of ns xs rest)

-- they are as many
pub count-of : (names : List (String Global)) (texts : List Text) → map string_bytes names ≡ map encode_utf8_all texts → length names ≡ length texts
count-of names texts e = sym (length-map names string_bytes) ∙ ap length e ∙ length-map texts encode_utf8_all

-- names that pass a test, by their bytes
pub filtered : (test : List ℕ → Bool) (texts : List Text) → filter test (map encode_utf8_all texts) ≡ map encode_utf8_all (filter (λ x. test (encode_utf8_all x)) texts)
filtered test [] = refl
filtered test (x ∷ xs) = by_case (test (encode_utf8_all x)) refl (filtered test xs) where
  by_case : (b : Bool) → test (encode_utf8_all x) ≡ b → filter test (map encode_utf8_all xs) ≡ map encode_utf8_all (filter (λ y. test (encode_utf8_all y)) xs) → filter test (map encode_utf8_all (x ∷ xs)) ≡ map encode_utf8_all (filter (λ y. test (encode_utf8_all y)) (x ∷ xs))
  by_case true e rest = rw e (ap (λ ys. encode_utf8_all x ∷ ys) rest)
  by_case false e rest = rw e rest

-- ---- the answer

pub all-selected : {P : Type 0} (plugin : PluginOf P) → ChosenInSuite plugin → (old new : List LoadedModule) (arcs : Bool) (fixed : Bytes) (most : ℕ) (before after : List P) (run : SuiteRun)
    → AreRegular old → SuiteOf plugin old arcs fixed most before (plain_answer (Ok run)) after
    → (r : Result Selection SuiteError) → MatchResult r (IsSelected run old new) (λ e. e ≡ NoMemory) → SelectedAs most old new (came_of r)
all-selected plugin law old new arcs fixed most before after run regular suite (Ok s) h =
    subst (λ (count : ℕ). IsChosen most old new (map name_view s.names.items) count) (sym h.counted)
    (subst (λ (names : List Text). IsChosen most old new names (length (tests_of new))) (sym h.names) (law old new arcs fixed most before after run h.changed regular suite h.changes))
all-selected plugin law old new arcs fixed most before after run regular suite (Err NoMemory) h = tt
all-selected plugin law old new arcs fixed most before after run regular suite (Err NotImported) h = absurd cc

pub none-selected : {P : Type 0} (plugin : PluginOf P) (old new : List LoadedModule) (arcs : Bool) (fixed : Bytes) (most : ℕ) (before after : List P) (e : SuiteError)
    → SuiteOf plugin old arcs fixed most before (plain_answer (Err e)) after → SelectedAs most old new (came_of (Err e))
none-selected plugin old new arcs fixed most before after NotImported suite = (suite.not_imported refl).stops
none-selected plugin old new arcs fixed most before after NoMemory suite = tt
