-- What instructions find on the operands, and how they go on: each leads on where its parts do.
use Rattle.std.proofs.Common.{◌≡◌, ℕ, zero, suc, ◌+◌, ◌<◌, ◌≤◌, List, [], ◌∷◌, length, map, take, drop, reverse, Some, Bool, true, false, refl, sym, subst, arith}
use Rattle.std.specs.Prelude.{slice_get, nat_le, if◌then◌else◌, Result, Ok, Err}
use Rattle.std.proofs.lemmas.List.{length-drop}
use Rattle.std.proofs.lemmas.Bool.Decides.{nat_tests}
use Rattle.cov_event.specs.declared.event.CodeId.{CodeId}
use Rattle.cov_event.specs.declared.event.Event.TheVariants.{Throw}
use Rattle.py_value.specs.Operators.{truth_of}
use Rattle.py_value.specs.Plain.{PlainValue, PlainRaised}
use Rattle.py_code.specs.Configurations.{Operand, Locals, Effects, Configuration, Ended, Next}
use Rattle.py_code.specs.Machine.{told, with_effects, dropping, one, two, three, many, where_found, numbered, stepping, answers, chooses, heap_of}
use Rattle.py_code.specs.Operands.{value_in}
use Rattle.py_code.specs.Run.{Ends}
use Rattle.py_code.specs.Units.{Code, Module, unit_at, places_of, handler_of}
use Rattle.py_code.specs.Valid.{LandsAt, AreValid}
use Rattle.py_code.proofs.Standing.{Fine, AllWait, rises}

le_true : (a b : ℕ) → a ≤ b → nat_le a b ≡ true
le_true a b h = grind (arith, nat_tests)

pub found_at : {A : Type 0} (xs : List A) (n : ℕ) → n < length xs → (x : A) × (slice_get xs n ≡ Some x)
found_at [] n h = absurd (omega arith)
found_at (x ∷ xs) zero h = (x, refl)
found_at (x ∷ xs) (suc n) h = found_at xs n (omega arith)

module _ {L : Type 0} (locals : Locals L) (ms : List Module) (depths : CodeId → List ℕ) (valid : AreValid ms depths) (c : Configuration L) where
  pub on_one : (xs : List Operand) (k : Operand → List Operand → Next L) → 0 < length xs
      → ((x : Operand) (ys : List Operand) → length xs ≡ suc (length ys) → Fine locals ms depths valid c (k x ys)) → Fine locals ms depths valid c (one xs c k)
  on_one [] k le h = absurd (omega arith)
  on_one (x ∷ xs) k le h = h x xs refl

  pub on_two : (xs : List Operand) (k : Operand → Operand → List Operand → Next L) → 1 < length xs
      → ((x y : Operand) (zs : List Operand) → length xs ≡ suc (suc (length zs)) → Fine locals ms depths valid c (k x y zs)) → Fine locals ms depths valid c (two xs c k)
  on_two [] k le h = absurd (omega arith)
  on_two (y ∷ []) k le h = absurd (omega arith)
  on_two (y ∷ (x ∷ zs)) k le h = h x y zs refl

  pub on_three : (xs : List Operand) (k : Operand → Operand → Operand → List Operand → Next L) → 2 < length xs
      → ((x y z : Operand) (ws : List Operand) → length xs ≡ suc (suc (suc (length ws))) → Fine locals ms depths valid c (k x y z ws)) → Fine locals ms depths valid c (three xs c k)
  on_three [] k le h = absurd (omega arith)
  on_three (z ∷ []) k le h = absurd (omega arith)
  on_three (z ∷ (y ∷ [])) k le h = absurd (omega arith)
  on_three (z ∷ (y ∷ (x ∷ ws))) k le h = h x y z ws refl

  pub on_dropped : (n : ℕ) (xs : List Operand) (k : List Operand → Next L) → n ≤ length xs
      → ((ys : List Operand) → length xs ≡ n + length ys → Fine locals ms depths valid c (k ys)) → Fine locals ms depths valid c (dropping n xs c k)
  on_dropped n xs k le h =
      let cut = length-drop n xs in
      subst (λ b. Fine locals ms depths valid c (if b then k (drop n xs) else Ends (record { how = Ended.stuck; steps = c.steps; effects = c.effects }))) (sym (le_true n (length xs) le)) (h (drop n xs) (omega arith))

  pub on_many : (n : ℕ) (xs : List Operand) (k : List PlainValue → List Operand → Next L) → n ≤ length xs
      → ((vs : List PlainValue) (ys : List Operand) → length xs ≡ n + length ys → Fine locals ms depths valid c (k vs ys)) → Fine locals ms depths valid c (many n xs c k)
  on_many n xs k le h = on_dropped n xs (λ ys. k (map value_in (reverse (take n xs))) ys) le (λ ys e. h (map value_in (reverse (take n xs))) ys e)

  pub on_number : {A : Type 0} (xs : List A) (n : ℕ) (k : A → Next L) → n < length xs → ((x : A) → Fine locals ms depths valid c (k x)) → Fine locals ms depths valid c (numbered xs n c k)
  on_number xs n k le h = let found = found_at xs n le in subst (λ o. Fine locals ms depths valid c (where_found o c k)) (sym found.1) (h found.0)

  pub on_truth : (v : PlainValue) (m n : Next L) → Fine locals ms depths valid c m → Fine locals ms depths valid c n → Fine locals ms depths valid c (chooses locals ms v c m n)
  on_truth v m n h k = by_case (truth_of v (heap_of c))
    where
      by_case : (b : Bool) → Fine locals ms depths valid c (if b then m else n)
      by_case true = h
      by_case false = k

  pub on_step : (n : ℕ) (k : ℕ → Next L) → c.steps ≡ n → ((m : ℕ) → c.steps ≡ suc m → Fine locals ms depths valid c (k m)) → Fine locals ms depths valid c (stepping n c k)
  on_step zero k e h = record { holds = tt }
  on_step (suc n) k e h = h n e

  module _ (u : Code) (is : unit_at ms c.top.code ≡ Some u) (here : c.top.place < length (places_of ms c.top.code)) (waiting : AllWait locals ms depths valid c.callers) where
    -- an answer, or an exception
    pub on_answer : {A : Type 0} (r : Result A PlainRaised) (xs : List Operand) (l : L) (e : Effects) (k : A → Next L) (rest : ℕ)
        → LandsAt (depths c.top.code) c.top.place rest (handler_of c.top.place u.handlers) → rest ≤ length xs → ((a : A) → Fine locals ms depths valid c (k a))
        → Fine locals ms depths valid c (answers locals ms r xs (with_effects e c) k)
    on_answer (Ok a) xs l e k rest lands le h = h a
    on_answer (Err raised) xs l e k rest lands le h =
        rises locals ms depths valid c u is here waiting raised true xs c.top.locals (told (Throw raised.kind) e) rest lands le
