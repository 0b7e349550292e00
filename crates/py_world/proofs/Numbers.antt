-- Modules by their names.
use Rattle.std.proofs.Common.{◌≡◌, ℕ, suc, List, [], ◌∷◌, map, drop, Some, None, true, false, refl, ap}
use Rattle.std.specs.Prelude.{if◌then◌else◌}
use Rattle.py_text.specs.Comparison.{is_same_text}
use Rattle.py_code.specs.declared.code.Program.{Program}
use Rattle.py_code.specs.Loaded.{module_of}
use Rattle.py_code.specs.Units.{Module, number_from, imported_number}

pub first_number : (ps : List Program) (x : List ℕ) → number_from 1 (map module_of (drop 1 ps)) x ≡ imported_number (map module_of ps) x
unfolding number_from
first_number [] x = refl
first_number (p ∷ ps) x = refl

pub number_none : (n : ℕ) (x : List ℕ) → number_from n [] x ≡ None
unfolding number_from
number_none n x = refl

pub number_here : (n : ℕ) (m : Module) (ms : List Module) (x : List ℕ) → is_same_text x m.name ≡ true → number_from n (m ∷ ms) x ≡ Some n
unfolding number_from
number_here n m ms x e = ap (λ b. if b then Some n else number_from (suc n) ms x) e

pub number_next : (n : ℕ) (m : Module) (ms : List Module) (x : List ℕ) → is_same_text x m.name ≡ false → number_from n (m ∷ ms) x ≡ number_from (suc n) ms x
unfolding number_from
number_next n m ms x e = ap (λ b. if b then Some n else number_from (suc n) ms x) e
