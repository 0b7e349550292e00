-- The names that are set, as numbers list them.
use Rattle.std.proofs.Common.{◌≡◌, ℕ, ◌<◌, List, [], ◌∷◌, ◌++◌, length, Some, None, false, refl, sym, ap, ◌∙◌, arith}
use Rattle.std.specs.Prelude.{Option, slice_get, slice_set}
use Rattle.py_text.specs.Comparison.{is_same_text}
use Rattle.py_value.specs.Plain.{PlainValue}
use Rattle.py_text.proofs.SameTexts.{text_is_same}
use Rattle.py_builtins.specs.World.{Names, value_of, with_name, without_name}
use Rattle.py_world.specs.Numbered.{Named, Numbered, set_then, named_then, listed, times}
use Rattle.py_world.proofs.Places.{got_set, got_other}
use Rattle.py_world.proofs.SetNames.{value_none, value_here, value_next, with_none, with_here, with_next, without_none, without_here, without_next}
use Rattle.py_world.proofs.Times.{this, other, which, times_this, times_other, times_none}

pub listed_none : (es : Numbered) → listed es [] ≡ []
unfolding listed
listed_none es = refl

pub listed_next : (es : Numbered) (m : ℕ) (ms : List ℕ) → listed es (m ∷ ms) ≡ named_then (slice_get es m) (listed es ms)
unfolding listed
listed_next es m ms = refl

-- ---- a name that is another's

abbrev pub IsOther : List ℕ → Option Named → Type 0
IsOther x o = (e : Named) → o ≡ Some e → is_same_text x e.0 ≡ false

set_value : (o : Option PlainValue) (x y : List ℕ) (ns : Names) → is_same_text x y ≡ false → value_of x (set_then y o ns) ≡ value_of x ns
set_value None x y ns h = refl
set_value (Some w) x y ns h = value_next x y w ns h

pub other_value : (o : Option Named) (x : List ℕ) (ns : Names) → IsOther x o → value_of x (named_then o ns) ≡ value_of x ns
other_value None x ns h = refl
other_value (Some e) x ns h = set_value e.1 x e.0 ns (h e refl)

set_with : (o : Option PlainValue) (x y : List ℕ) (v : PlainValue) (ns : Names) → is_same_text x y ≡ false → with_name x v (set_then y o ns) ≡ set_then y o (with_name x v ns)
set_with None x y v ns h = refl
set_with (Some w) x y v ns h = with_next x y v w ns h

pub other_with : (o : Option Named) (x : List ℕ) (v : PlainValue) (ns : Names) → IsOther x o → with_name x v (named_then o ns) ≡ named_then o (with_name x v ns)
other_with None x v ns h = refl
other_with (Some e) x v ns h = set_with e.1 x e.0 v ns (h e refl)

set_without : (o : Option PlainValue) (x y : List ℕ) (ns : Names) → is_same_text x y ≡ false → without_name x (set_then y o ns) ≡ set_then y o (without_name x ns)
set_without None x y ns h = refl
set_without (Some w) x y ns h = without_next x y w ns h

pub other_without : (o : Option Named) (x : List ℕ) (ns : Names) → IsOther x o → without_name x (named_then o ns) ≡ named_then o (without_name x ns)
other_without None x ns h = refl
other_without (Some e) x ns h = set_without e.1 x e.0 ns (h e refl)

set_append : (o : Option PlainValue) (y : List ℕ) (ns ms : Names) → set_then y o (ns ++ ms) ≡ set_then y o ns ++ ms
set_append None y ns ms = refl
set_append (Some w) y ns ms = refl

pub named_append : (o : Option Named) (ns ms : Names) → named_then o (ns ++ ms) ≡ named_then o ns ++ ms
named_append None ns ms = refl
named_append (Some e) ns ms = set_append e.1 e.0 ns ms

-- ---- that name

here_without : (o : Option PlainValue) (x : List ℕ) (ns : Names) → without_name x (set_then x o ns) ≡ without_name x ns
here_without None x ns = refl
here_without (Some w) x ns = without_here x x w ns (text_is_same x)

-- the number of a name: no other number has the name
module _ (es : Numbered) (n : ℕ) (x : List ℕ) (own : (m : ℕ) → (m ≡ n → ⊥) → IsOther x (slice_get es m)) where
  -- while it isn't set
  pub no_value : (ms : List ℕ) → times n ms ≡ 0 → value_of x (listed es ms) ≡ None
  no_value [] h = ap (value_of x) (listed_none es) ∙ value_none x
  no_value (m ∷ ms) h = elim (which n m) [
    | this e ↦ absurd (omega (arith, times_this n m ms e))
    | other ne ↦ ap (value_of x) (listed_next es m ms) ∙ other_value (slice_get es m) x (listed es ms) (own m ne) ∙ no_value ms (sym (times_other n m ms ne) ∙ h)
  ]

  pub not_set : (ms : List ℕ) → times n ms ≡ 0 → without_name x (listed es ms) ≡ listed es ms
  not_set [] h = ap (without_name x) (listed_none es) ∙ without_none x ∙ sym (listed_none es)
  not_set (m ∷ ms) h = elim (which n m) [
    | this e ↦ absurd (omega (arith, times_this n m ms e))
    | other ne ↦
        ap (without_name x) (listed_next es m ms)
        ∙ other_without (slice_get es m) x (listed es ms) (own m ne)
        ∙ ap (named_then (slice_get es m)) (not_set ms (sym (times_other n m ms ne) ∙ h))
        ∙ sym (listed_next es m ms)
  ]

  pub set_last : (v : PlainValue) (ms : List ℕ) → times n ms ≡ 0 → with_name x v (listed es ms) ≡ listed es ms ++ (x, v) ∷ []
  set_last v [] h = ap (with_name x v) (listed_none es) ∙ with_none x v ∙ ap (λ ns. ns ++ (x, v) ∷ []) (sym (listed_none es))
  set_last v (m ∷ ms) h = elim (which n m) [
    | this e ↦ absurd (omega (arith, times_this n m ms e))
    | other ne ↦
        ap (with_name x v) (listed_next es m ms)
        ∙ other_with (slice_get es m) x v (listed es ms) (own m ne)
        ∙ ap (named_then (slice_get es m)) (set_last v ms (sym (times_other n m ms ne) ∙ h))
        ∙ named_append (slice_get es m) (listed es ms) ((x, v) ∷ [])
        ∙ ap (λ ns. ns ++ (x, v) ∷ []) (sym (listed_next es m ms))
  ]

  -- another entry in its place changes nothing where the number isn't listed
  pub unlisted : (e : Named) (ms : List ℕ) → times n ms ≡ 0 → listed (slice_set es n e) ms ≡ listed es ms
  unlisted e [] h = listed_none (slice_set es n e) ∙ sym (listed_none es)
  unlisted e (m ∷ ms) h = elim (which n m) [
    | this same ↦ absurd (omega (arith, times_this n m ms same))
    | other ne ↦
        listed_next (slice_set es n e) m ms
        ∙ ap (λ o. named_then o (listed (slice_set es n e) ms)) (got_other es n m e ne)
        ∙ ap (named_then (slice_get es m)) (unlisted e ms (sym (times_other n m ms ne) ∙ h))
        ∙ sym (listed_next es m ms)
  ]

  -- while it is set
  module _ (w : PlainValue) (at : slice_get es n ≡ Some (x, Some w)) where
    got : (m : ℕ) → m ≡ n → slice_get es m ≡ Some (x, Some w)
    got m e = ap (slice_get es) e ∙ at

    pub its_value : (ms : List ℕ) → times n ms ≡ 1 → value_of x (listed es ms) ≡ Some w
    its_value [] h = absurd (omega (arith, times_none n))
    its_value (m ∷ ms) h = elim (which n m) [
      | this e ↦ ap (value_of x) (listed_next es m ms ∙ ap (λ o. named_then o (listed es ms)) (got m e)) ∙ value_here x x w (listed es ms) (text_is_same x)
      | other ne ↦ ap (value_of x) (listed_next es m ms) ∙ other_value (slice_get es m) x (listed es ms) (own m ne) ∙ its_value ms (sym (times_other n m ms ne) ∙ h)
    ]

    pub set_there : (v : PlainValue) (ms : List ℕ) → n < length es → times n ms ≡ 1 → listed (slice_set es n (x, Some v)) ms ≡ with_name x v (listed es ms)
    set_there v [] lt h = absurd (omega (arith, times_none n))
    set_there v (m ∷ ms) lt h = elim (which n m) [
      | this e ↦
          listed_next (slice_set es n (x, Some v)) m ms
          ∙ ap (λ o. named_then o (listed (slice_set es n (x, Some v)) ms)) (ap (slice_get (slice_set es n (x, Some v))) e ∙ got_set es n (x, Some v) lt)
          ∙ ap (λ ns. (x, v) ∷ ns) (unlisted (x, Some v) ms (omega (arith, times_this n m ms e)))
          ∙ sym (with_here x x v w (listed es ms) (text_is_same x))
          ∙ ap (with_name x v) (sym (listed_next es m ms ∙ ap (λ o. named_then o (listed es ms)) (got m e)))
      | other ne ↦
          listed_next (slice_set es n (x, Some v)) m ms
          ∙ ap (λ o. named_then o (listed (slice_set es n (x, Some v)) ms)) (got_other es n m (x, Some v) ne)
          ∙ ap (named_then (slice_get es m)) (set_there v ms lt (sym (times_other n m ms ne) ∙ h))
          ∙ sym (other_with (slice_get es m) x v (listed es ms) (own m ne))
          ∙ ap (with_name x v) (sym (listed_next es m ms))
    ]

  -- it is unset
  pub unset_there : (o : Option PlainValue) → slice_get es n ≡ Some (x, o) → (ms : List ℕ) → n < length es → listed (slice_set es n (x, None)) ms ≡ without_name x (listed es ms)
  unset_there o at [] lt = listed_none (slice_set es n (x, None)) ∙ sym (ap (without_name x) (listed_none es) ∙ without_none x)
  unset_there o at (m ∷ ms) lt = elim (which n m) [
    | this e ↦
        listed_next (slice_set es n (x, None)) m ms
        ∙ ap (λ o. named_then o (listed (slice_set es n (x, None)) ms)) (ap (slice_get (slice_set es n (x, None))) e ∙ got_set es n (x, None) lt)
        ∙ unset_there o at ms lt
        ∙ sym (here_without o x (listed es ms))
        ∙ ap (without_name x) (sym (listed_next es m ms ∙ ap (λ o. named_then o (listed es ms)) (ap (slice_get es) e ∙ at)))
    | other ne ↦
        listed_next (slice_set es n (x, None)) m ms
        ∙ ap (λ o. named_then o (listed (slice_set es n (x, None)) ms)) (got_other es n m (x, None) ne)
        ∙ ap (named_then (slice_get es m)) (unset_there o at ms lt)
        ∙ sym (other_without (slice_get es m) x (listed es ms) (own m ne))
        ∙ ap (without_name x) (sym (listed_next es m ms))
  ]
