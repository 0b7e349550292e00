-- Values one after another.
use Rattle.std.proofs.Common.{◌≡◌, ℕ, ◌+◌, List, ◌∷◌, drop, false, sym, ap, ◌∙◌}
use Rattle.std.specs.Prelude.{◌&&◌}
use Rattle.py_value.specs.declared.value.Value.{Value}
use Rattle.py_value.specs.View.{plain, plains}
use Rattle.py_builtins.specs.Making.{may_all_nest}
use Rattle.py_value.specs.Plain.{may_nest}

-- a value that may not nest
pub one_too_deep : (vs : List Value) (i : ℕ) (v : Value) → drop i vs ≡ v ∷ drop (i + 1) vs → may_nest (plain v) ≡ false → may_all_nest (plains (drop i vs)) ≡ may_all_nest (plains vs) → false ≡ may_all_nest (plains vs)
one_too_deep vs i v e n h = sym (ap (λ xs. may_all_nest (plains xs)) e ∙ ap (λ b. b && may_all_nest (plains (drop (i + 1) vs))) n) ∙ h
