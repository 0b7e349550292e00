-- Names that are set, one after another.
use Rattle.std.proofs.Common.{◌≡◌, ℕ, List, [], ◌∷◌, true, false, Some, None, refl, ap}
use Rattle.std.specs.Prelude.{if◌then◌else◌}
use Rattle.py_text.specs.Comparison.{is_same_text}
use Rattle.py_value.specs.Plain.{PlainValue}
use Rattle.py_builtins.specs.World.{Names, value_of, with_name, without_name}

pub value_none : (x : List ℕ) → value_of x [] ≡ None
unfolding value_of
value_none x = refl

pub value_here : (x y : List ℕ) (v : PlainValue) (ns : Names) → is_same_text x y ≡ true → value_of x ((y, v) ∷ ns) ≡ Some v
unfolding value_of
value_here x y v ns e = ap (λ b. if b then Some v else value_of x ns) e

pub value_next : (x y : List ℕ) (v : PlainValue) (ns : Names) → is_same_text x y ≡ false → value_of x ((y, v) ∷ ns) ≡ value_of x ns
unfolding value_of
value_next x y v ns e = ap (λ b. if b then Some v else value_of x ns) e

pub with_none : (x : List ℕ) (v : PlainValue) → with_name x v [] ≡ (x, v) ∷ []
unfolding with_name
with_none x v = refl

pub with_here : (x y : List ℕ) (v w : PlainValue) (ns : Names) → is_same_text x y ≡ true → with_name x v ((y, w) ∷ ns) ≡ (x, v) ∷ ns
unfolding with_name
with_here x y v w ns e = ap (λ b. if b then (x, v) ∷ ns else (y, w) ∷ with_name x v ns) e

pub with_next : (x y : List ℕ) (v w : PlainValue) (ns : Names) → is_same_text x y ≡ false → with_name x v ((y, w) ∷ ns) ≡ (y, w) ∷ with_name x v ns
unfolding with_name
with_next x y v w ns e = ap (λ b. if b then (x, v) ∷ ns else (y, w) ∷ with_name x v ns) e

pub without_none : (x : List ℕ) → without_name x [] ≡ []
unfolding without_name
without_none x = refl

pub without_here : (x y : List ℕ) (w : PlainValue) (ns : Names) → is_same_text x y ≡ true → without_name x ((y, w) ∷ ns) ≡ without_name x ns
unfolding without_name
without_here x y w ns e = ap (λ b. if b then without_name x ns else (y, w) ∷ without_name x ns) e

pub without_next : (x y : List ℕ) (w : PlainValue) (ns : Names) → is_same_text x y ≡ false → without_name x ((y, w) ∷ ns) ≡ (y, w) ∷ without_name x ns
unfolding without_name
without_next x y w ns e = ap (λ b. if b then without_name x ns else (y, w) ∷ without_name x ns) e
