-- What the unchanged programs did, from their data.
use Rattle.std.proofs.Common.{◌≡◌, ℕ, zero, suc, ◌<◌, Bool, List, [], ◌∷◌, map, length, Contains, Ok, Err, Result, refl, ap, sym, subst, arith, ◌∙◌}
use Rattle.cov_arcs.specs.Laws.{ModulesArcsLaw, CallArcsLaw}
use Rattle.cov_contexts.specs.declared.plugins.Plugin.{Ghosts as PluginOf}
use Rattle.cov_data.specs.DataSet.{Text as Bytes}
use Rattle.cov_measure_laws.specs.Units.{program_units}
use Rattle.cov_recorder.specs.Plan.{Named, set_at}
use Rattle.cov_suite.specs.declared.results.SuiteError.{SuiteError}
use Rattle.cov_suite.specs.declared.results.SuiteError.TheVariants.{NotImported, NoMemory}
use Rattle.cov_suite.specs.Meant.{AreTested, SuiteOf}
use Rattle.cov_suite.specs.Views.{SuiteView}
use Rattle.py_code.specs.declared.code.Programs.{Programs}
use Rattle.py_meaning.specs.Modules.{LoadedModule, body_of}
use Rattle.py_syntax.specs.Prediction.{Arc, possible}
use Rattle.py_syntax.specs.View.{plain_module}
use Rattle.py_syntax.specs.declared.stmt.Module.{Module}
use Rattle.cov_mutate.specs.Meant.{AreMutable, RanOf}
use Rattle.cov_mutate.proofs.SuiteLines.{suite-lines}

-- ---- sets of what is possible

abbrev pub possible_in : Module → List Arc
possible_in m = possible (plain_module m)

hold : (ts : List Module) (ms : List LoadedModule) → map plain_module ts ≡ map (λ m. m.body) ms → (m : ℕ) → m < length ms → set_at (map possible_in ts) m ≡ possible (body_of ms m)
hold ts [] e m lt = absurd (omega arith)
hold [] (x ∷ ms) e m lt = absurd cc
hold (t ∷ ts) (x ∷ ms) e zero lt = let same : plain_module t ≡ x.body = cc in ap possible same
hold (t ∷ ts) (x ∷ ms) e (suc m) lt = let rest : map plain_module ts ≡ map (λ m. m.body) ms = cc in hold ts ms rest m (omega (arith, lt))

-- the trees of programs, with their units and with sets of what is possible in them
pub are-tested : (ps : Programs) (trees : List Module) (ms : List LoadedModule) → AreMutable ps trees ms → (units : List (List Named)) → units ≡ program_units ps.modules.items → (sets : List (List Arc)) → sets ≡ map possible_in trees → AreTested ps units sets ms
are-tested ps trees ms are units named sets is = record {
  faithful = are.faithful;
  paths = are.paths;
  well_formed = are.well_formed;
  lines = are.lines;
  named = named;
  whole = λ m lt a at. subst (λ (s : List Arc). Contains s a) (sym (ap (λ (ss : List (List Arc)). set_at ss m) is ∙ hold trees ms are.bodies m lt)) at;
}

-- ---- the suite

pub has-run : {P : Type 0} (plugin : PluginOf P) → ModulesArcsLaw → CallArcsLaw → (budget : ℕ) (ms : List LoadedModule) (arcs : Bool) (fixed : Bytes) (old new : List P) (answer : Result SuiteView SuiteError) → SuiteOf plugin ms arcs fixed budget old answer new → RanOf budget ms answer
has-run plugin modules_agree calls_agree budget ms arcs fixed old new (Ok s) h = record {
  imports = h.ran.imports;
  tests = h.ran.tests;
  lines = λ m l some. suite-lines plugin modules_agree calls_agree ms arcs fixed budget m l some old s new h.ran;
}
has-run plugin modules_agree calls_agree budget ms arcs fixed old new (Err NotImported) h = (h.not_imported refl).stops
has-run plugin modules_agree calls_agree budget ms arcs fixed old new (Err NoMemory) h = tt
