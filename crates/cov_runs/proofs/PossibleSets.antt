-- Sets that hold what is possible in modules, made module by module.
use Rattle.std.proofs.Common.{◌≡◌, ℕ, zero, suc, ◌<◌, ◌≤◌, List, [], ◌∷◌, ◌++◌, map, drop, length, get_or, refl, sym, ap, ◌∙◌, append_assoc, arith}
use Rattle.std.proofs.lemmas.List.{append-nil}
use Rattle.std.proofs.Math.ListN.{drop_of_length-le}
use Rattle.std.proofs.Math.Seq.{drop-cons}
use Rattle.py_code.specs.declared.code.Program.{Program}
use Rattle.py_meaning.specs.Modules.{body_of}
use Rattle.py_syntax.specs.Prediction.{Arc, possible}
use Rattle.py_syntax.specs.View.{plain_module}
use Rattle.py_syntax.specs.declared.stmt.Module.{Module}
use Rattle.cov_recorder.specs.Plan.{set_at}
use Rattle.cov_run.specs.Loads.{loaded_pairs}

abbrev pub possible_in : Module → List Arc
possible_in m = possible (plain_module m)

pub sets-step : (modules : List Module) (i : ℕ) (d : Module) (old new : List (List Arc)) (set : List Arc) → i < length modules → d ≡ get_or modules i d → set ≡ possible_in d → new ≡ old ++ set ∷ []
    → old ++ map possible_in (drop i modules) ≡ map possible_in modules
    → new ++ map possible_in (drop (suc i) modules) ≡ map possible_in modules
sets-step modules i d old new set h at is more e =
    ap (λ w. w ++ map possible_in (drop (suc i) modules)) (more ∙ ap (λ s. old ++ s ∷ []) (is ∙ ap possible_in at))
    ∙ append_assoc old (possible_in (get_or modules i d) ∷ []) (map possible_in (drop (suc i) modules))
    ∙ ap (λ ms. old ++ map possible_in ms) (sym (drop-cons modules i d h)) ∙ e

pub sets-end : (modules : List Module) (i : ℕ) (sets : List (List Arc)) → length modules ≤ i → sets ++ map possible_in (drop i modules) ≡ map possible_in modules → sets ≡ map possible_in modules
sets-end modules i sets h e = sym (append-nil sets) ∙ ap (λ ms. sets ++ map possible_in ms) (sym (drop_of_length-le modules h)) ∙ e

-- they are what is possible in programs beside these modules
pub hold : (ps : List Program) (ms : List Module) (m : ℕ) → m < length (loaded_pairs ps ms) → set_at (map possible_in ms) m ≡ possible (body_of (loaded_pairs ps ms) m)
hold [] ms m low = absurd (omega (arith, low))
hold (p ∷ ps) [] m low = absurd (omega (arith, low))
hold (p ∷ ps) (x ∷ ms) zero low = refl
hold (p ∷ ps) (x ∷ ms) (suc m) low = hold ps ms m (omega (arith, low))
