-- What the code of patterns does is what a match means.
use Rattle.std.proofs.Common.{◌≡◌, ℕ, suc, ◌+◌, ◌<◌, ◌≤◌, List, [], ◌∷◌, ◌++◌, length, map, take, drop, Option, Some, None, Bool, true, false, refl, sym, ap, ◌∙◌, subst, arith}
use Rattle.std.specs.Prelude.{Ok, Err}
use Rattle.py_operator.specs.declared.operator.CmpOp.TheVariants.{Eq as OpEq}
use Rattle.py_value.specs.Answers.{◌>>=◌}
use Rattle.py_value.specs.Compared.{compared}
use Rattle.py_value.specs.Operators.{compare_of}
use Rattle.py_value.specs.Plain.{PlainValue, bool_value, PlainRaised}
use Rattle.py_syntax.specs.declared.pattern.Brackets.{Brackets}
use Rattle.py_syntax.specs.Tree.{Text, Constant, c_int, c_str, c_none, c_bool, Pattern, literal, capture, wild, member, sequence, p_or, p_as, p_paren, Patterns, no_patterns, patterns}
use Rattle.py_builtins.specs.Attributes.{attribute}
use Rattle.py_builtins.specs.Items.{sequence_items, of_length}
use Rattle.py_builtins.specs.World.{Names}
use Rattle.py_meaning.specs.Calls.{Calls}
use Rattle.py_meaning.specs.Computations.{State, done, Ans, give, read, ask}
use Rattle.py_meaning.specs.Modules.{LoadedModule}
use Rattle.py_meaning.specs.Patterns.{Match, match_if, and_then, or_else, constant_matches, pattern_count, on_items, matched, matched_each, matched_one}
use Rattle.py_meaning.specs.Places.{Scope, fetched}
use Rattle.py_code.specs.declared.instr.Instr.TheVariants.{Pop, Copy, Sink, Compare, Goto, Unless, Sequence}
use Rattle.py_code.specs.declared.instr.Question.TheVariants.{Eq}
use Rattle.py_code.specs.declared.unit.Constant.TheVariants.{Bool as BoolConstant}
use Rattle.py_code.specs.Configurations.{Operand, of_value, Locals, End}
use Rattle.py_code.specs.Machine.{answers, falls, jumps, pushes, where_found, looks_in}
use Rattle.py_code.specs.Operands.{asked}
use Rattle.py_code.specs.Slots.{by_names}
use Rattle.py_code.specs.Units.{Code, Module, unit_at, constant_value}
use Rattle.py_compile_expr.specs.Cells.{plain, Guard, cell}
use Rattle.py_compile_expr.specs.Patterns.{kept_constant, constant_question, captured, captured_each, pattern_size, items_size, one_size, Site, with_waiting, with_captured, pattern_code, items_code, one_code}
use Rattle.py_compile_expr.specs.Runs.{Spot, conf, from as going, thrown, after, on_top, Fits, Matches, part_of, CallsRun}
use Rattle.py_compile_expr.specs.Stands.{StandsAt, HasAt}
use Rattle.py_compile_expr.proofs.InstructionRuns.{constant_runs, name_runs}
use Rattle.py_compile_expr.proofs.PartRuns.{over_values, part_at}
use Rattle.py_compile_expr.proofs.Places.{has_front, has_at}
use Rattle.py_compile_expr.proofs.Pushed.{pushed}
use Rattle.py_compile_expr.proofs.Simulation.{fits_less, fits_more, truth_on_top, thrown_over, led, answered}
use Rattle.py_compile_expr.proofs.Sizes.{pattern_length}
use Rattle.py_compile.specs.Proper.{BindsNone, NoneBind, ProperPattern, ProperPatterns}
use Rattle.py_compile.proofs.Flow.{dropping_runs, led_on}
use Rattle.py_compile.proofs.PatternNames.{captured_names, values_in, values_append, as_many, HasNames, none_captured, is_proper, has_names}
use Rattle.py_compile.proofs.PatternOperands.{append_more, length_more, take_front, drop_front, pushed_append, no_names_left, length_is, Falls, falls_fewer, at_least, texts_more, waits, item_falls, rest_falls, as_falls, alone_falls, fits_over}

-- what follows a match: its values stand below those that wait, or the operands that were left
abbrev pub after_match : List Module → Spot → Site → (end : ℕ) (W R F : List Operand) → Ans Match → State → ℕ → End
after_match cs w s end W R F (Ok None) t n = going cs w s.fail F t n
after_match cs w s end W R F (Ok (Some ns)) t n = going cs w end (W ++ pushed (values_in ns) R) t n
after_match cs w s end W R F (Err e) t n = thrown cs w s.guard R e t n

module _ (cs : List Module) (ms : List LoadedModule) (matches : Matches cs ms) (c : Calls) (k : ℕ) (calls : CallsRun cs c k)
    (w : Spot) (u : Code) (is : unit_at cs w.code ≡ Some u) (handled : Option PlainRaised) (t : State) (n : ℕ) where
  abbrev sc : Scope
  sc = (part_of ms u w.code handled).scope

  abbrev N : Locals Names
  N = by_names cs

  over_many : (g : Option Guard) (end : ℕ) (xs R : List Operand) → Fits g end (length R) → (e : PlainRaised) → thrown cs w g (xs ++ R) e t n ≡ thrown cs w g R e t n
  over_many g end [] R f e = refl
  over_many g end (x ∷ xs) R f e =
      let more = length_more xs R in
      thrown_over cs w g end x (xs ++ R) (fits_more g end (length R) (length (xs ++ R)) (omega arith) f) e t n ∙ over_many g end xs R f e

  -- an answer on some operands, and what a match does with it
  then_match : {A : Type 0} (leaves : A → List Operand → List Operand) (s : Site) (mid end : ℕ) (ys W R F : List Operand) (r : Ans A) (f : A → Ans Match) (first : End)
      → first ≡ after cs w leaves s.guard mid ys (done r t n) → ((e : PlainRaised) → thrown cs w s.guard ys e t n ≡ thrown cs w s.guard R e t n)
      → ((a : A) → going cs w mid (leaves a ys) t n ≡ after_match cs w s end W R F (f a) t n) → first ≡ after_match cs w s end W R F (r >>= f) t n
  then_match leaves s mid end ys W R F (Ok a) f first e same next = e ∙ next a
  then_match leaves s mid end ys W R F (Err x) f first e same next = e ∙ same x

  -- a truth decides
  unless_runs : (b : Bool) (s : Site) (p : ℕ) (W R F : List Operand) → StandsAt u p (cell s.guard (plain (Unless s.extra s.fail))) → p < s.fail → Falls 0 s.extra W R F
      → going cs w p (of_value (bool_value b) ∷ (W ++ R)) t n ≡ after_match cs w s (p + 1) W R F (Ok (match_if b)) t n
  unless_runs true s p W R F at lt f = led_on cs w u is p (Unless s.extra s.fail) (of_value (bool_value true) ∷ (W ++ R)) (W ++ R) t t n at.instr refl
  unless_runs false s p W R F at lt f =
      let xs = of_value (bool_value false) ∷ (W ++ R) in
      let d = conf w p xs t n in
      let fact = f [] (omega arith) in
      let none_more : 0 + s.extra ≡ s.extra = omega arith in
      let enough : s.extra ≤ length (W ++ R) = subst (λ m. m ≤ length (W ++ R)) none_more fact.0 in
      let left : drop s.extra (W ++ R) ≡ F = ap (λ m. drop m (W ++ R)) (sym none_more) ∙ fact.1 in
      led cs w u is p s.fail (Unless s.extra s.fail) xs (drop s.extra (W ++ R)) t t n at.instr lt (dropping_runs s.extra (W ++ R) d (λ zs. jumps s.fail zs d) enough)
      ∙ ap (λ zs. going cs w s.fail zs t n) left

  -- a value goes below those that wait
  sink_runs : (g : Option Guard) (p m : ℕ) (x : PlainValue) (W R : List Operand) → StandsAt u p (cell g (plain (Sink m))) → length W ≡ m → going cs w p (of_value x ∷ (W ++ R)) t n ≡ going cs w (p + 1) (W ++ of_value x ∷ R) t n
  sink_runs g p m x W R at same =
      let xs = of_value x ∷ (W ++ R) in
      let d = conf w p xs t n in
      let long = length_more W R in
      led_on cs w u is p (Sink m) xs (take m (W ++ R) ++ of_value x ∷ drop m (W ++ R)) t t n at.instr (dropping_runs m (W ++ R) d (λ zs. falls (take m (W ++ R) ++ of_value x ∷ zs) d) (omega arith))
      ∙ (ap (λ zs. going cs w (p + 1) (zs ++ of_value x ∷ drop m (W ++ R)) t n) (take_front W R m same)
      ∙ ap (λ zs. going cs w (p + 1) (W ++ of_value x ∷ zs) t n) (drop_front W R m 0 (omega arith)))

  abbrev pub PatternRuns : Pattern → Type 0
  PatternRuns q = (s : Site) (p : ℕ) → HasAt u p (pattern_code s p q) → (W R F : List Operand) → length W ≡ s.waiting → p + pattern_size q ≤ s.fail → Falls (length (captured q)) s.extra W R F → Fits s.guard (p + pattern_size q) (length R)
      → (x : PlainValue) → going cs w p (of_value x ∷ (W ++ R)) t n ≡ after_match cs w s (p + pattern_size q) W R F (matched sc t.now q x) t n

  abbrev ItemsRun : Patterns → Type 0
  ItemsRun qs = (s : Site) (p : ℕ) → HasAt u p (items_code s p qs) → (W R F : List Operand) → length W ≡ s.waiting → p + items_size qs ≤ s.fail → Falls (length (captured_each qs)) s.extra W R F → Fits s.guard (p + items_size qs) (length R)
      → (vs : List PlainValue) → length vs ≡ pattern_count qs → going cs w p (map of_value vs ++ (W ++ R)) t n ≡ after_match cs w s (p + items_size qs) W R F (matched_each sc t.now qs vs) t n

  abbrev OneRuns : Patterns → Type 0
  OneRuns qs = (s : Site) (p end : ℕ) → p + one_size qs ≡ end → HasAt u p (one_code s p end qs) → (W R F : List Operand) → length W ≡ s.waiting → end ≤ s.fail → Falls 0 s.extra W R F → Fits s.guard end (length R)
      → (x : PlainValue) → going cs w p (of_value x ∷ (W ++ R)) t n ≡ after_match cs w s end W R F (matched_one sc t.now qs x) t n

  same_match : (s : Site) (a b : ℕ) (W R F : List Operand) (r : Ans Match) → a ≡ b → after_match cs w s a W R F r t n ≡ after_match cs w s b W R F r t n
  same_match s a b W R F r e = ap (λ m. after_match cs w s m W R F r t n) e

  constant_same : (minus : Bool) (kk : Constant) (x : PlainValue) → compared (asked (constant_question kk)) x (constant_value (kept_constant minus kk)) t.now.world.heap ≡ constant_matches minus kk x t.now.world.heap
  constant_same minus (c_int a) x = refl
  constant_same minus (c_str pieces) x = refl
  constant_same minus c_none x = refl
  constant_same minus (c_bool b) x = refl

  literal_runs : (minus : Bool) (kk : Constant) → PatternRuns (literal minus kk)
  unfolding matched
  literal_runs minus kk s p has W R F wait le f fits x =
      let ys = W ++ R in
      let y = constant_value (kept_constant minus kk) in
      let xs = of_value y ∷ of_value x ∷ ys in
      let d = conf w (p + 1) xs t n in
      let long = length_more W R in
      let same : p + 1 + 1 + 1 ≡ p + 3 = omega arith in
      constant_runs cs ms matches c k calls w u is handled (kept_constant minus kk) s.guard p (of_value x ∷ ys) t n has.0
      ∙ (then_match truth_on_top s (p + 1 + 1) (p + 1 + 1 + 1) ys W R F (constant_matches minus kk x t.now.world.heap) (λ b. Ok (match_if b)) (going cs w (p + 1) xs t n)
      (answered cs w u is truth_on_top s.guard (p + 1) (Compare (constant_question kk)) xs ys (constant_matches minus kk x t.now.world.heap) t n has.1.0.instr has.1.0.guard
      (fits_more s.guard (p + 1 + 1) (length R) (length ys) (omega arith) (fits_less s.guard (p + 3) (p + 1 + 1) (length R) (omega arith) fits))
      (ap (λ r. answers N cs r ys d (λ b. pushes (bool_value b) ys d)) (constant_same minus kk x)))
      (over_many s.guard (p + 3) W R fits)
      (λ b. unless_runs b s (p + 1 + 1) W R F has.1.1.0 (omega arith) f)
      ∙ same_match s (p + 1 + 1 + 1) (p + 3) W R F (constant_matches minus kk x t.now.world.heap >>= λ b. Ok (match_if b)) same)

  member_runs : (m x : Text) → PatternRuns (member m x)
  unfolding matched ask read give
  member_runs m x s p has W R F wait le f fits v =
      let ys = W ++ R in
      let base = of_value v ∷ ys in
      let h = t.now.world.heap in
      let long = length_more W R in
      let end = p + 1 + 1 + 1 + 1 in
      let same : end ≡ p + 4 = omega arith in
      let more : (last d : ℕ) → last ≤ p + 4 → length R ≤ d → Fits s.guard last d = λ last d small big. fits_more s.guard last (length R) d big (fits_less s.guard (p + 4) last (length R) small fits) in
      let over : (e : PlainRaised) → thrown cs w s.guard base e t n ≡ thrown cs w s.guard R e t n = λ e. thrown_over cs w s.guard (p + 4) (of_value v) ys (more (p + 4) (length ys) (omega arith) (omega arith)) e t n ∙ over_many s.guard (p + 4) W R fits e in
      then_match on_top s (p + 1) end base W R F (fetched sc m t.now) _ (going cs w p base t n) (name_runs cs ms matches c k calls w u is handled m s.guard p base t n has.0 (more (p + 1) (suc (length ys)) (omega arith) (omega arith))) over
      (λ of. then_match on_top s (p + 1 + 1) end base W R F (attribute of x t.now.world) _ (going cs w (p + 1) (of_value of ∷ base) t n)
      (answered cs w u is on_top s.guard (p + 1) _ (of_value of ∷ base) base (attribute of x t.now.world) t n has.1.0.instr has.1.0.guard (more (p + 1 + 1) (suc (length ys)) (omega arith) (omega arith))
      (ap (λ o. where_found o (conf w (p + 1) (of_value of ∷ base) t n) (λ z. answers N cs (attribute of z t.now.world) base (conf w (p + 1) (of_value of ∷ base) t n) (λ a. pushes a base (conf w (p + 1) (of_value of ∷ base) t n)))) has.1.0.knows)) over
      (λ a. then_match truth_on_top s (p + 1 + 1 + 1) end ys W R F (compare_of OpEq v a h) (λ b. Ok (match_if b)) (going cs w (p + 1 + 1) (of_value a ∷ base) t n)
      (answered cs w u is truth_on_top s.guard (p + 1 + 1) (Compare Eq) (of_value a ∷ base) ys (compare_of OpEq v a h) t n has.1.1.0.instr has.1.1.0.guard (more (p + 1 + 1 + 1) (length ys) (omega arith) (omega arith)) refl)
      (over_many s.guard (p + 4) W R fits)
      (λ b. unless_runs b s (p + 1 + 1 + 1) W R F has.1.1.1.0 (omega arith) f)))
      ∙ same_match s end (p + 4) W R F _ same

  -- the items of a sequence
  items_none : ItemsRun no_patterns
  unfolding matched_each
  items_none s p has W R F wait le f fits [] long = ap (λ m. going cs w m (W ++ R) t n) (omega arith)
  items_none s p has W R F wait le f fits (v ∷ vs) long = absurd (omega arith)

  -- a match of one pattern with a match of others after it
  then_both : (m : ℕ) (s : Site) (mid end : ℕ) (V W R F : List Operand) (r rest : Ans Match) (xs : List Text) (first : End) → first ≡ after_match cs w (with_waiting m s) mid V R F r t n → HasNames xs r
      → ((ns : Names) → captured_names ns ≡ xs → going cs w mid (V ++ pushed (values_in ns) R) t n ≡ after_match cs w s end W R F (and_then (Some ns) rest) t n) → first ≡ after_match cs w s end W R F (r >>= λ found. and_then found rest) t n
  then_both m s mid end V W R F (Ok None) rest xs first e h next = e
  then_both m s mid end V W R F (Ok (Some ns)) rest xs first e h next = e ∙ next ns h
  then_both m s mid end V W R F (Err x) rest xs first e h next = e

  joins : (count : ℕ) (s : Site) (mid end : ℕ) (W R F : List Operand) (ns : Names) (r : Ans Match) → mid ≡ end → Fits s.guard end (length R) → after_match cs w (with_captured count s) mid W (pushed (values_in ns) R) F r t n ≡ after_match cs w s end W R F (and_then (Some ns) r) t n
  joins count s mid end W R F ns (Ok None) same fits = refl
  joins count s mid end W R F ns (Ok (Some more)) same fits =
      ap (λ m. going cs w m (W ++ pushed (values_in more) (pushed (values_in ns) R)) t n) same
      ∙ ap (λ zs. going cs w end (W ++ zs) t n) (sym (pushed_append (values_in ns) (values_in more) R) ∙ ap (λ vs. pushed vs R) (sym (values_append ns more)))
  joins count s mid end W R F ns (Err e) same fits = over_values cs ms matches c k calls w u is handled s.guard end (values_in ns) R fits e t n

  items_some : (q : Pattern) (qs : Patterns) → ProperPattern q → PatternRuns q → ItemsRun qs → ItemsRun (patterns q qs)
  unfolding matched_each
  items_some q qs ok rq rqs s p has W R F wait le f fits [] long = absurd (omega arith)
  items_some q qs ok rq rqs s p has W R F wait le f fits (v ∷ vs) long =
      let s1 = with_waiting (pattern_count qs) s in
      let V = map of_value vs ++ W in
      let mid = p + pattern_size q in
      let last = mid + items_size qs in
      let end = p + (pattern_size q + items_size qs) in
      let cq = length (captured q) in
      let cqs = length (captured_each qs) in
      let few : length vs ≡ pattern_count qs = omega arith in
      let all : Falls (cq + cqs) s.extra W R F = falls_fewer (cq + cqs) (length (captured q ++ captured_each qs)) s.extra W R F (at_least (texts_more (captured q) (captured_each qs))) f in
      let behind_q = part_at cs ms matches c k calls w u is handled p (pattern_size q) (pattern_code s1 p q) _ (pattern_length s1 p q) has in
      ap (λ zs. going cs w p (of_value v ∷ zs) t n) (sym (append_more (map of_value vs) W R))
      ∙ then_both (pattern_count qs) s mid end V W R F (matched sc t.now q v) (matched_each sc t.now qs vs) (captured q) (going cs w p (of_value v ∷ (V ++ R)) t n)
      (rq s1 p (has_front u p (pattern_code s1 p q) _ has) V R F (waits vs W (pattern_count qs) s.waiting few wait) (omega arith) (item_falls vs W R F (pattern_count qs) cq cqs s.extra few all) (fits_less s.guard end mid (length R) (omega arith) fits) v)
      (has_names sc t.now q ok v)
      (λ ns e. ap (λ zs. going cs w mid zs t n) (append_more (map of_value vs) W (pushed (values_in ns) R))
      ∙ (rqs (with_captured cq s) mid behind_q W (pushed (values_in ns) R) F wait (omega arith) (rest_falls (values_in ns) W R F cq cqs s.extra (as_many ns ∙ ap length e) all)
      (fits_over (values_in ns) R s.guard last (fits_less s.guard end last (length R) (omega arith) fits)) vs few
      ∙ joins cq s last end W R F ns (matched_each sc t.now qs vs) (omega arith) fits))

  sequence_runs : (brackets : Brackets) (qs : Patterns) (comma : Bool) → ItemsRun qs → PatternRuns (sequence brackets qs comma)
  unfolding matched
  sequence_runs brackets qs comma rqs s p has W R F wait le f fits x = by_items (of_length (pattern_count qs) (sequence_items x t.now.world.heap)) refl
    where
      by_items : (o : Option (List PlainValue)) → of_length (pattern_count qs) (sequence_items x t.now.world.heap) ≡ o → going cs w p (of_value x ∷ (W ++ R)) t n ≡ after_match cs w s (p + (1 + items_size qs)) W R F (on_items o (λ vs. matched_each sc t.now qs vs)) t n
      by_items None e =
          let xs = of_value x ∷ (W ++ R) in
          let d = conf w p xs t n in
          let fact = f [] (omega arith) in
          let none_more : 0 + s.extra ≡ s.extra = omega arith in
          let enough : s.extra ≤ length (W ++ R) = subst (λ m. m ≤ length (W ++ R)) none_more fact.0 in
          let left : drop s.extra (W ++ R) ≡ F = ap (λ m. drop m (W ++ R)) (sym none_more) ∙ fact.1 in
          led cs w u is p s.fail (Sequence (pattern_count qs) s.extra s.fail) xs (drop s.extra (W ++ R)) t t n has.0.instr (omega arith)
          (ap (λ o. looks_in N cs o s.extra s.fail (W ++ R) d) e ∙ dropping_runs s.extra (W ++ R) d (λ zs. jumps s.fail zs d) enough)
          ∙ ap (λ zs. going cs w s.fail zs t n) left
      by_items (Some vs) e =
          let xs = of_value x ∷ (W ++ R) in
          let d = conf w p xs t n in
          let last = p + 1 + items_size qs in
          let end = p + (1 + items_size qs) in
          led_on cs w u is p (Sequence (pattern_count qs) s.extra s.fail) xs (map of_value vs ++ (W ++ R)) t t n has.0.instr (ap (λ o. looks_in N cs o s.extra s.fail (W ++ R) d) e)
          ∙ (rqs s (p + 1) has.1 W R F wait (omega arith) f (fits_less s.guard end last (length R) (omega arith) fits) vs (length_is (pattern_count qs) (sequence_items x t.now.world.heap) vs e)
          ∙ same_match s last end W R F (matched_each sc t.now qs vs) (omega arith))

  -- ---- alternatives

  no_one : OneRuns no_patterns
  unfolding matched_one
  no_one s p end same has W R F wait le f fits x =
      led_on cs w u is p Pop (of_value x ∷ (W ++ R)) (W ++ R) t t n has.0.instr refl
      ∙ (constant_runs cs ms matches c k calls w u is handled (BoolConstant false) s.guard (p + 1) (W ++ R) t n has.1.0
      ∙ unless_runs false s (p + 1 + 1) W R F has.1.1.0 (omega arith) f)

  last_is : (r : Ans Match) → r ≡ (r >>= λ found. or_else found (Ok None))
  last_is (Ok None) = refl
  last_is (Ok (Some ns)) = refl
  last_is (Err e) = refl

  last_one : (q : Pattern) → BindsNone q → PatternRuns q → OneRuns (patterns q no_patterns)
  unfolding matched_one
  last_one q ok rq s p end same has W R F wait le f fits x =
      let none_more : length (captured q) ≡ 0 = ap length (none_captured q ok) in
      rq s p has W R F wait (omega arith) (falls_fewer (length (captured q)) 0 s.extra W R F (omega arith) f) (fits_less s.guard end (p + pattern_size q) (length R) (omega arith) fits) x
      ∙ (same_match s (p + pattern_size q) end W R F (matched sc t.now q x) same ∙ ap (λ r. after_match cs w s end W R F r t n) (last_is (matched sc t.now q x)))

  -- the first alternative, and those after it where it fails
  or_match : (s s1 : Site) (mid end : ℕ) (x : PlainValue) (W R : List Operand) (F : List Operand) (r rest : Ans Match) (first : End) → first ≡ after_match cs w s1 mid (of_value x ∷ W) R (of_value x ∷ (W ++ R)) r t n → HasNames [] r → s1.guard ≡ s.guard
      → going cs w mid (of_value x ∷ (W ++ R)) t n ≡ going cs w end (W ++ R) t n → going cs w s1.fail (of_value x ∷ (W ++ R)) t n ≡ after_match cs w s end W R F rest t n
      → first ≡ after_match cs w s end W R F (r >>= λ found. or_else found rest) t n
  or_match s s1 mid end x W R F (Ok None) rest first e h g chooses refuses = e ∙ refuses
  or_match s s1 mid end x W R F (Ok (Some ns)) rest first e h g chooses refuses =
      let none_there = no_names_left ns h in
      e ∙ (ap (λ ms. going cs w mid (of_value x ∷ (W ++ pushed (values_in ms) R)) t n) none_there ∙ (chooses ∙ ap (λ ms. going cs w end (W ++ pushed (values_in ms) R) t n) (sym none_there)))
  or_match s s1 mid end x W R F (Err a) rest first e h g chooses refuses = e ∙ ap (λ y. thrown cs w y R a t n) g

  more_one : (q r : Pattern) (rs : Patterns) → BindsNone q → PatternRuns q → OneRuns (patterns r rs) → OneRuns (patterns q (patterns r rs))
  unfolding matched_one
  more_one q r rs ok rq rest s p end same has W R F wait le f fits x =
      let mid = p + 1 + pattern_size q in
      let next = mid + 2 in
      let s1 : Site = record { guard = s.guard; waiting = 1 + s.waiting; fail = next; extra = 0 } in
      let none_more : length (captured q) ≡ 0 = ap length (none_captured q ok) in
      let ys = of_value x ∷ (W ++ R) in
      let tail = part_at cs ms matches c k calls w u is handled (p + 1) (pattern_size q) (pattern_code s1 (p + 1) q) _ (pattern_length s1 (p + 1) q) has.1 in
      let later : HasAt u next (one_code s next end (patterns r rs)) = has_at u (mid + 1 + 1) next _ (omega arith) tail.1.1 in
      let whole : p + (1 + pattern_size q + 2 + one_size (patterns r rs)) ≡ end = same in
      led_on cs w u is p (Copy 0) ys (of_value x ∷ ys) t t n has.0.instr refl
      ∙ or_match s s1 mid end x W R F (matched sc t.now q x) (matched_one sc t.now (patterns r rs) x) (going cs w (p + 1) (of_value x ∷ ys) t n)
      (rq s1 (p + 1) (has_front u (p + 1) (pattern_code s1 (p + 1) q) _ has.1) (of_value x ∷ W) R ys (omega arith) (omega arith) (alone_falls (length (captured q)) (of_value x ∷ W) R none_more) (fits_less s.guard end mid (length R) (omega arith) fits) x)
      (has_nothing q ok x) refl
      (led_on cs w u is mid Pop ys (W ++ R) t t n tail.0.instr refl ∙ led cs w u is (mid + 1) end (Goto end) (W ++ R) (W ++ R) t t n tail.1.0.instr (omega arith) refl)
      (rest s next end (omega arith) later W R F wait le f fits x)
    where
      has_nothing : (a : Pattern) → BindsNone a → (y : PlainValue) → HasNames [] (matched sc t.now a y)
      has_nothing a none_bound y = subst (λ xs. HasNames xs (matched sc t.now a y)) (none_captured a none_bound) (has_names sc t.now a (is_proper a none_bound) y)

  -- a pattern with a name for the whole value
  as_runs : (q : Pattern) (x : Text) → ProperPattern q → PatternRuns q → PatternRuns (p_as q x)
  unfolding matched
  as_runs q x ok rq s p has W R F wait le f fits v =
      let mid = p + 1 + pattern_size q in
      let end = p + (1 + pattern_size q + 1) in
      let cq = length (captured q) in
      let ys = of_value v ∷ (W ++ R) in
      let all : Falls (cq + 1) s.extra W R F = falls_fewer (cq + 1) (length (captured q ++ x ∷ [])) s.extra W R F (at_least (texts_more (captured q) (x ∷ []))) f in
      let tail = part_at cs ms matches c k calls w u is handled (p + 1) (pattern_size q) (pattern_code (with_waiting 1 s) (p + 1) q) _ (pattern_length (with_waiting 1 s) (p + 1) q) has.1 in
      led_on cs w u is p (Copy 0) ys (of_value v ∷ ys) t t n has.0.instr refl
      ∙ then_both 1 s mid end (of_value v ∷ W) W R F (matched sc t.now q v) (Ok (Some ((x, v) ∷ []))) (captured q) (going cs w (p + 1) (of_value v ∷ ys) t n)
      (rq (with_waiting 1 s) (p + 1) (has_front u (p + 1) (pattern_code (with_waiting 1 s) (p + 1) q) _ has.1) (of_value v ∷ W) R F (omega arith) (omega arith) (as_falls (of_value v) W R F cq s.extra all) (fits_less s.guard end mid (length R) (omega arith) fits) v)
      (has_names sc t.now q ok v)
      (λ ns e. sink_runs s.guard mid s.waiting v W (pushed (values_in ns) R) tail.0 wait
      ∙ (ap (λ m. going cs w m (W ++ of_value v ∷ pushed (values_in ns) R) t n) (omega arith)
      ∙ ap (λ zs. going cs w end (W ++ zs) t n) (sym (pushed_append (values_in ns) (v ∷ []) R) ∙ ap (λ vs. pushed vs R) (sym (values_append ns ((x, v) ∷ []))))))

  capture_runs : (x : Text) → PatternRuns (capture x)
  unfolding matched
  capture_runs x s p has W R F wait le f fits v = sink_runs s.guard p s.waiting v W R has.0 wait

  wild_runs : PatternRuns wild
  unfolding matched
  wild_runs s p has W R F wait le f fits v = led_on cs w u is p Pop (of_value v ∷ (W ++ R)) (W ++ R) t t n has.0.instr refl

  or_runs : (qs : Patterns) → OneRuns qs → PatternRuns (p_or qs)
  unfolding matched
  or_runs qs rs s p has W R F wait le f fits x = rs s p (p + one_size qs) refl has W R F wait le f fits x

  paren_runs : (q : Pattern) → PatternRuns q → PatternRuns (p_paren q)
  unfolding matched
  paren_runs q rq s p has W R F wait le f fits x = rq s p has W R F wait le f fits x

  mutual
    pub pattern_runs : (q : Pattern) → ProperPattern q → PatternRuns q
    pattern_runs (literal minus kk) ok = literal_runs minus kk
    pattern_runs (capture x) ok = capture_runs x
    pattern_runs wild ok = wild_runs
    pattern_runs (member m x) ok = member_runs m x
    pattern_runs (sequence brackets qs comma) ok = sequence_runs brackets qs comma (items_run qs ok)
    pattern_runs (p_or qs) ok = or_runs qs (one_runs qs ok)
    pattern_runs (p_as q x) ok = as_runs q x ok (pattern_runs q ok)
    pattern_runs (p_paren q) ok = paren_runs q (pattern_runs q ok)

    items_run : (qs : Patterns) → ProperPatterns qs → ItemsRun qs
    items_run no_patterns ok = items_none
    items_run (patterns q qs) ok = items_some q qs ok.0 (pattern_runs q ok.0) (items_run qs ok.1)

    one_runs : (qs : Patterns) → NoneBind qs → OneRuns qs
    one_runs no_patterns ok = no_one
    one_runs (patterns q no_patterns) ok = last_one q ok.0 (pattern_runs q (is_proper q ok.0))
    one_runs (patterns q (patterns r rs)) ok = more_one q r rs ok.0 (pattern_runs q (is_proper q ok.0)) (one_runs (patterns r rs) ok.1)
