-- Recorded arcs are possible, and predicted or thrown at each of their places.
use Rattle.std.proofs.Common.{◌≡◌, ℕ, pos, true, false, List, Option, map, All, Contains, inl, inr, refl, sym, subst, ◌∙◌}
use Rattle.std.specs.Prelude.{◌⊎◌, IsTrue}
use Rattle.std.proofs.lemmas.List.Elements.{All-from_recursion, recursion_from_All}
use Rattle.cov_data.specs.DataSet.{Text}
use Rattle.py_syntax.specs.Prediction.{Arc, predicted, possible}
use Rattle.py_meaning.specs.Crossings.{Crossing, ends, crossings, lines_crossed}
use Rattle.py_meaning.specs.Activations.{Items}
use Rattle.py_meaning.specs.Loading.{loaded}
use Rattle.py_meaning.specs.Modules.{LoadedModule, body_of}
use Rattle.py_meaning.specs.Program.{run_modules, meaning, called}
use Rattle.py_prediction_laws.specs.Sound.{IsForeseen, AreForeseen, ModulesSoundness, CallSoundness}
use Rattle.cov_recorder.specs.Recording.{Recording}
use Rattle.cov_recorder_laws.specs.Laws.{KeepsMeaning, ModulesStepsLaw, CallStepsLaw}
use Rattle.cov_recorder_laws.proofs.Pairs.{among, among-Contains, Contains-among}
use Rattle.cov_recorder_laws.proofs.Law.{in_order}
use Rattle.cov_measure_laws.specs.Foreseen.{IsForeseenArc, ForeseenDataLaw, KeepsForeseenData, ProgramForeseenDataLaw, ModulesForeseenDataLaw, CallForeseenDataLaw}
use Rattle.cov_measure_laws.proofs.Members.{all_at, each_of, from_map}

-- an arc that a foreseen module took
pub foreseen_arc : (ms : List LoadedModule) (items : Items) → AreForeseen ms items → (m : ℕ) (a : Arc) → Contains (map ends (crossings ms m items)) a → IsForeseenArc ms items m a
foreseen_arc ms items foreseen m a at =
    let cs = crossings ms m items in
    let body = body_of ms m in
    let each = recursion_from_All (IsForeseen body) cs (foreseen m) in
    let c = from_map ends cs a at in
    let seen : (c : Crossing) → Contains cs c → IsForeseen body c = all_at (IsForeseen body) cs each in
    record {
      taken = at;
      possible = subst (Contains (possible body)) c.2 (seen c.0 c.1).0;
      foreseen = elim (among a (predicted body)) as (λ b. among a (predicted body) ≡ b → Contains (predicted body) a ⊎ All (λ c. ends c ≡ a → IsTrue c.thrown) cs) [
        | true ↦ λ e. inl (among-Contains a (predicted body) e)
        | false ↦ λ e. inr (All-from_recursion _ cs (each_of (λ c. ends c ≡ a → IsTrue c.thrown) cs (λ c here same. thrown c e same (seen c here).1)))
      ] refl;
    }
  where
    thrown : (c : Crossing) → among a (predicted (body_of ms m)) ≡ false → ends c ≡ a → Contains (predicted (body_of ms m)) (ends c) ⊎ IsTrue c.thrown → IsTrue c.thrown
    thrown c e same (inl p) =
        let is : true ≡ false = sym (Contains-among a (predicted (body_of ms m)) (subst (Contains (predicted (body_of ms m))) same p)) ∙ e in
        cc
    thrown c e same (inr t) = t

pub foreseen_data : ForeseenDataLaw
foreseen_data plan ms items d foreseen steps =
    let of : (m : ℕ) (a : Arc) → Contains (lines_crossed (crossings ms m items)) a → IsForeseenArc ms items m a = λ m a at.
    foreseen_arc ms items foreseen m a ((in_order (map ends (crossings ms m items)) (lines_crossed (crossings ms m items)) refl a).1 at) in
    record {
      arcs = λ kind path a at. let is = (steps.arcs kind path a).0 at in (is.0, is.1, of is.0 a is.3);
      lines = λ kind path line some at. let is = (steps.lines kind path line some).0 at in (is.0, is.1, is.2, of is.0 (is.1, pos line) is.4);
    }

module _ {S C : Type 0} (asks : C → Text → Text → Option (List ℕ) → C → Type 0) (state : S → Recording × C) where
  keeps : (ms : List LoadedModule) (items : Items) → AreForeseen ms items → KeepsMeaning asks state ms items → KeepsForeseenData asks state ms items
  keeps ms items foreseen meant plan new same took = foreseen_data plan ms items (state new).0.data foreseen (meant plan new same took)

  pub modules_foreseen : ModulesStepsLaw asks state → ModulesSoundness → ModulesForeseenDataLaw asks state
  modules_foreseen steps sound ms some lines proper words input budget =
      keeps ms (run_modules ms words input budget).items (sound ms proper words input budget) (steps ms some lines words input budget)

  pub program_foreseen : ModulesStepsLaw asks state → ModulesSoundness → ProgramForeseenDataLaw asks state
  unfolding meaning
  program_foreseen steps sound program some lines proper words input budget = modules_foreseen steps sound (loaded program) some lines proper words input budget

  pub call_foreseen : CallStepsLaw asks state → CallSoundness → CallForeseenDataLaw asks state
  call_foreseen steps sound ms lines proper w input r budget =
      keeps ms (called ms w input r budget).items (sound ms proper w input r budget) (steps ms lines w input r budget)
