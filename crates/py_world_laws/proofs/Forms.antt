-- What instructions find on the operands, and what they put there.
use Rattle.std.proofs.Common.{◌≡◌, ℕ, zero, suc, ◌+◌, List, [], ◌∷◌, ◌++◌, length, map, take, drop, Option, Some, None, Bool, true, false, refl}
use Rattle.std.specs.Prelude.{nat_le, reverse, ◌&&◌, ◌==◌, Result}
use Rattle.cov_event.specs.declared.event.Event.TheVariants.{Line}
use Rattle.py_value.specs.Plain.{PlainValue, none_value, bool_value, int_value, str_value, tuple_value, list_at, dict_at, func_value, module_value, kind_value, exc_value, builtin_value, no_argument, PlainHeap, PlainRaised}
use Rattle.py_value.specs.Operators.{truth_of}
use Rattle.py_builtins.specs.Arguments.{Answer}
use Rattle.py_code.specs.Configurations.{Way, on, by_break, by_continue, by_return, by_raise, Operand, of_value, of_walk, of_way, Effects, Configuration, spent, stuck, Next}
use Rattle.py_code.specs.Machine.{told, told_line, with_operands, on_heap, heap_of, halted, jumps, falls, pushes, dropping, one, two, three, many, where_found, stepping, answers, pushes_answer, makes, stores, chooses, links, spreads, looks_in, turns, raises, marks, puts_way, resumes}
use Rattle.py_code.specs.Operands.{value_in}
use Rattle.py_code.specs.Slots.{by_slots}
use Rattle.py_code.specs.Units.{Module}
use Rattle.py_world_laws.specs.Making.{AreMakers}
use Rattle.py_world_laws.specs.Suits.{Environment, Suits, Suit, SuitAll, HeapSuits, WorldSuits, Widens}
use Rattle.py_world_laws.specs.Frames.{Slots, SuitsWay, SuitsOperand, OperandsSuit, made_at}
use Rattle.py_world_laws.proofs.Values.{either, ThroughOption}
use Rattle.py_world_laws.proofs.Heaps.{wider_globals, wider_other}
use Rattle.py_world_laws.proofs.Operands.{operands_drop, many_taken, values_spread, wider_operands, wider_slots, wider_frames}
use Rattle.py_world_laws.proofs.Results.{Makes, ResultSuits, AnswerSuits}
use Rattle.py_world_laws.proofs.Exceptions.{Keeps, Calm, ready_else, goes_to, halts, escape, fling, ans}

-- with another heap that has more objects
pub calm_wider : (ms : List Module) (e f : Environment) (h : PlainHeap) (c : Configuration Slots) → Widens e f → HeapSuits ms f h → Calm ms e c → Calm ms f (on_heap h c)
calm_wider ms e f h c w k g = (
  record { globals = wider_globals ms e f w c.effects.world.globals g.0.globals; heap = k; words = wider_other ms e f w c.effects.world.words g.0.words },
  wider_slots ms e f w c.top.locals g.1,
  wider_frames ms e f w c.callers g.2,
  g.3,
)

module _ (ms : List Module) (makers : AreMakers ms) (e : Environment) where
  pub found : {A : Type 0} (o : Option A) (c : Configuration Slots) (k : A → Next Slots) → Calm ms e c → ((x : A) → o ≡ Some x → Keeps ms (k x)) → Keeps ms (where_found o c k)
  found None c k g h = halts ms makers e stuck c tt g
  found (Some x) c k g h = h x refl

  pub on_one : (xs : List Operand) (c : Configuration Slots) (k : Operand → List Operand → Next Slots) → Calm ms e c → OperandsSuit ms e xs
      → ((x : Operand) (ys : List Operand) → SuitsOperand ms e x → OperandsSuit ms e ys → Keeps ms (k x ys)) → Keeps ms (one xs c k)
  on_one [] c k g i h = halts ms makers e stuck c tt g
  on_one (x ∷ xs) c k g i h = h x xs i.0 i.1

  pub on_two : (xs : List Operand) (c : Configuration Slots) (k : Operand → Operand → List Operand → Next Slots) → Calm ms e c → OperandsSuit ms e xs
      → ((x y : Operand) (ys : List Operand) → SuitsOperand ms e x → SuitsOperand ms e y → OperandsSuit ms e ys → Keeps ms (k x y ys)) → Keeps ms (two xs c k)
  on_two [] c k g i h = halts ms makers e stuck c tt g
  on_two (y ∷ []) c k g i h = halts ms makers e stuck c tt g
  on_two (y ∷ (x ∷ zs)) c k g i h = h x y zs i.1.0 i.0 i.1.1

  pub on_three : (xs : List Operand) (c : Configuration Slots) (k : Operand → Operand → Operand → List Operand → Next Slots) → Calm ms e c → OperandsSuit ms e xs
      → ((x y z : Operand) (ys : List Operand) → SuitsOperand ms e x → SuitsOperand ms e y → SuitsOperand ms e z → OperandsSuit ms e ys → Keeps ms (k x y z ys)) → Keeps ms (three xs c k)
  on_three [] c k g i h = halts ms makers e stuck c tt g
  on_three (z ∷ []) c k g i h = halts ms makers e stuck c tt g
  on_three (z ∷ (y ∷ [])) c k g i h = halts ms makers e stuck c tt g
  on_three (z ∷ (y ∷ (x ∷ ws))) c k g i h = h x y z ws i.1.1.0 i.1.0 i.0 i.1.1.1

  pub dropped : (n : ℕ) (xs : List Operand) (c : Configuration Slots) (k : List Operand → Next Slots) → Calm ms e c → OperandsSuit ms e xs
      → ((ys : List Operand) → OperandsSuit ms e ys → Keeps ms (k ys)) → Keeps ms (dropping n xs c k)
  dropped n xs c k g i h = either (Keeps ms) (nat_le n (length xs)) (k (drop n xs)) (halted stuck c) (h (drop n xs) (operands_drop ms e n xs i)) (halts ms makers e stuck c tt g)

  pub on_many : (n : ℕ) (xs : List Operand) (c : Configuration Slots) (k : List PlainValue → List Operand → Next Slots) → Calm ms e c → OperandsSuit ms e xs
      → ((vs : List PlainValue) (ys : List Operand) → SuitAll ms e vs → OperandsSuit ms e ys → Keeps ms (k vs ys)) → Keeps ms (many n xs c k)
  on_many n xs c k g i h = dropped n xs c (λ ys. k (map value_in (reverse (take n xs))) ys) g i (λ ys j. h (map value_in (reverse (take n xs))) ys (many_taken ms e n xs i) j)

  pub on_step : (n : ℕ) (c : Configuration Slots) (k : ℕ → Next Slots) → Calm ms e c → ((m : ℕ) → Keeps ms (k m)) → Keeps ms (stepping n c k)
  on_step zero c k g h = halts ms makers e spent c tt g
  on_step (suc n) c k g h = h n

  -- ---- answers

  abbrev NextIsFree : Configuration Slots → Type 0
  NextIsFree c = made_at ms c.top.code (suc c.top.place) ≡ None

  pub pushed : (v : PlainValue) (xs : List Operand) (c : Configuration Slots) → NextIsFree c → Calm ms e c → OperandsSuit ms e xs → Suit ms e v → Keeps ms (pushes v xs c)
  pushed v xs c n g i k = goes_to ms makers e (suc c.top.place) (of_value v ∷ xs) c n g (k, i)

  pub answer_pushed : (r : Result PlainValue PlainRaised) (xs : List Operand) (c : Configuration Slots) → ResultSuits ms e (Suit ms e) r → NextIsFree c → Calm ms e c → OperandsSuit ms e xs
      → Keeps ms (pushes_answer (by_slots ms) ms r xs c)
  answer_pushed r xs c k n g i = ans ms makers e (Suit ms e) r xs c _ k g i (λ v j. pushed v xs c n g i j)

  -- of what suits always
  pub plainly : {A : Type 0} (r : Result A PlainRaised) (xs : List Operand) (c : Configuration Slots) (k : A → Next Slots) → ResultSuits ms e (λ (a : A). Unit {0}) r
      → Calm ms e c → OperandsSuit ms e xs → ((a : A) → Keeps ms (k a)) → Keeps ms (answers (by_slots ms) ms r xs c k)
  plainly {A} r xs c k i g j h = ans ms makers e (λ (a : A). Unit {0}) r xs c k i g j (λ a l. h a)

  pub made : (r : Answer) (xs : List Operand) (c : Configuration Slots) → AnswerSuits ms e r → NextIsFree c → Calm ms e c → OperandsSuit ms e xs → Keeps ms (makes (by_slots ms) ms r xs c)
  made r xs c k n g i = ans ms makers e (λ p. Makes ms e p.0 p.1) r xs c _ k g i (λ p m. new p m)
    where
      new : (p : PlainValue × PlainHeap) → Makes ms e p.0 p.1 → Keeps ms (pushes p.0 xs (on_heap p.1 c))
      new p m = goes_to ms makers m.env (suc c.top.place) (of_value p.0 ∷ xs) (on_heap p.1 c) n (calm_wider ms e m.env p.1 c m.widens m.heap g) (m.value, wider_operands ms e m.env m.widens xs i)

  pub stored_in : (r : Result (Unit {0} × PlainHeap) PlainRaised) (xs ys : List Operand) (c : Configuration Slots) → ResultSuits ms e (λ p. HeapSuits ms e p.1) r → NextIsFree c → Calm ms e c
      → OperandsSuit ms e xs → OperandsSuit ms e ys → Keeps ms (stores (by_slots ms) ms r xs ys c)
  stored_in r xs ys c k n g i j = ans ms makers e (λ p. HeapSuits ms e p.1) r xs c _ k g i (λ p l. in_heap p l)
    where
      in_heap : (p : Unit {0} × PlainHeap) → HeapSuits ms e p.1 → Keeps ms (falls ys (on_heap p.1 c))
      in_heap p l = goes_to ms makers e (suc c.top.place) ys (on_heap p.1 c) n (record { globals = g.0.globals; heap = l; words = g.0.words }, g.1, g.2, g.3) j

  pub chosen : (v : PlainValue) (c : Configuration Slots) (m k : Next Slots) → Keeps ms m → Keeps ms k → Keeps ms (chooses (by_slots ms) ms v c m k)
  chosen v c m k h i = either (Keeps ms) (truth_of v (heap_of c)) m k h i

  -- ---- forms

  pub linked : (b : Bool) (w : Operand) (to : ℕ) (xs : List Operand) (c : Configuration Slots) → NextIsFree c → made_at ms c.top.code to ≡ None → Calm ms e c → SuitsOperand ms e w → OperandsSuit ms e xs
      → Keeps ms (links (by_slots ms) ms b w to xs c)
  linked true w to xs c n m g k i = goes_to ms makers e (suc c.top.place) (w ∷ xs) c n g (k, i)
  linked false w to xs c n m g k i = goes_to ms makers e to (of_value (bool_value false) ∷ xs) c m g (tt, i)

  pub spread : (vs : List PlainValue) (xs : List Operand) (c : Configuration Slots) → NextIsFree c → Calm ms e c → SuitAll ms e vs → OperandsSuit ms e xs → Keeps ms (spreads (by_slots ms) ms vs xs c)
  spread vs xs c n g k i = goes_to ms makers e (suc c.top.place) (map of_value vs ++ xs) c n g (values_spread ms e vs xs k i)

  abbrev SeveralSuit : Option (List PlainValue) → Type 0
  SeveralSuit None = Unit {0}
  SeveralSuit (Some vs) = SuitAll ms e vs

  pub looked : (o : Option (List PlainValue)) (n to : ℕ) (xs : List Operand) (c : Configuration Slots) → NextIsFree c → made_at ms c.top.code to ≡ None → Calm ms e c → SeveralSuit o → OperandsSuit ms e xs
      → Keeps ms (looks_in (by_slots ms) ms o n to xs c)
  looked None n to xs c l m g k i = dropped n xs c (λ ys. jumps to ys c) g i (λ ys j. goes_to ms makers e to ys c m g j)
  looked (Some vs) n to xs c l m g k i = spread vs xs c l g k i

  pub turned : (o : Option PlainValue) (v : PlainValue) (n j to : ℕ) (xs : List Operand) (c : Configuration Slots) → NextIsFree c → made_at ms c.top.code to ≡ None → Calm ms e c
      → ThroughOption (Suits ms e) o → Suit ms e v → OperandsSuit ms e xs → Keeps ms (turns (by_slots ms) ms o v n j to xs c)
  turned None v n j to xs c l m g k h i = goes_to ms makers e to xs c m g i
  turned (Some x) v n j to xs c l m g k h i = goes_to ms makers e (suc c.top.place) (of_value x ∷ of_walk v n (suc j) ∷ xs) c l g (k, (h, i))

  pub raised_on : (v : PlainValue) (c : Configuration Slots) → Calm ms e c → OperandsSuit ms e c.top.operands → Suit ms e v → Keeps ms (raises (by_slots ms) ms v c)
  raised_on none_value c g i k = fling ms makers e _ c g i tt
  raised_on (bool_value b) c g i k = fling ms makers e _ c g i tt
  raised_on (int_value n) c g i k = fling ms makers e _ c g i tt
  raised_on (str_value s) c g i k = fling ms makers e _ c g i tt
  raised_on (tuple_value items) c g i k = fling ms makers e _ c g i tt
  raised_on (list_at a) c g i k = fling ms makers e _ c g i tt
  raised_on (dict_at a) c g i k = fling ms makers e _ c g i tt
  raised_on (func_value f a) c g i k = fling ms makers e _ c g i tt
  raised_on (module_value m) c g i k = fling ms makers e _ c g i tt
  raised_on (kind_value kind) c g i k = escape ms makers e (record { kind = kind; arg = no_argument }) false c g i tt
  raised_on (exc_value kind arg) c g i k = escape ms makers e (record { kind = kind; arg = arg }) false c g i k.1
  raised_on (builtin_value which) c g i k = fling ms makers e _ c g i tt

  line_told : (kept l : ℕ) (w : Effects) → WorldSuits ms e w.world → WorldSuits ms e (told_line kept l w).world
  line_told kept l w g = either (λ (x : Effects). WorldSuits ms e x.world) (l == kept) w (told (Line l) w) g g

  pub marked : (l : ℕ) (w : Effects) (c : Configuration Slots) → NextIsFree c → Calm ms e c → WorldSuits ms e w.world → OperandsSuit ms e c.top.operands → Keeps ms (marks (by_slots ms) ms l w c)
  marked l w c n g h i = on_step c.steps c _ g (λ m. record {
    holds = record { env = e; world = h; operands = ready_else ms e c.top.code (suc c.top.place) c.top.operands n i; locals = g.1; callers = g.2 };
  })

  pub marked_once : (l : ℕ) (c : Configuration Slots) → NextIsFree c → Calm ms e c → OperandsSuit ms e c.top.operands → Keeps ms (marks (by_slots ms) ms l (told_line c.top.line l c.effects) c)
  marked_once l c n g i = marked l (told_line c.top.line l c.effects) c n g (line_told c.top.line l c.effects g.0) i

  pub puts : (n : ℕ) (w : Way) (to : ℕ) (xs : List Operand) (c : Configuration Slots) → made_at ms c.top.code to ≡ None → Calm ms e c → SuitsWay ms e w → OperandsSuit ms e xs → Keeps ms (puts_way (by_slots ms) ms n w to xs c)
  puts n w to xs c m g k i = dropped n xs c (λ ys. jumps to (of_way w ∷ ys) c) g i (λ ys j. goes_to ms makers e to (of_way w ∷ ys) c m g (k, j))

  pub resumed : (settled : Bool) (w : Way) (xs : List Operand) (c : Configuration Slots) → made_at ms c.top.code (4 + c.top.place) ≡ None → made_at ms c.top.code (1 + c.top.place) ≡ None
      → made_at ms c.top.code (2 + c.top.place) ≡ None → made_at ms c.top.code (3 + c.top.place) ≡ None → Calm ms e c → SuitsWay ms e w → OperandsSuit ms e xs → Keeps ms (resumes (by_slots ms) ms settled w xs c)
  resumed settled on xs c a b d f g k i = goes_to ms makers e (4 + c.top.place) xs c a g i
  resumed settled by_break xs c a b d f g k i = goes_to ms makers e (1 + c.top.place) xs c b g i
  resumed settled by_continue xs c a b d f g k i = goes_to ms makers e (2 + c.top.place) xs c d g i
  resumed settled (by_return v) xs c a b d f g k i = goes_to ms makers e (3 + c.top.place) (of_value v ∷ xs) c f g (k, i)
  resumed settled (by_raise raised t) xs c a b d f g k i =
      either (Keeps ms) (settled && t) _ _ (fling ms makers e raised (with_operands xs c) g i k) (escape ms makers e raised t (with_operands xs c) g i k)
