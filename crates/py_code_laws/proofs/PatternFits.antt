-- The places of the code of patterns have one number of operands each. A pattern takes the value on top, and leaves those that it captures.
use Rattle.std.proofs.Common.{◌≡◌, ℕ, suc, ◌+◌, ◌-◌, ◌≤◌, true, false, List, [], ◌∷◌, length, Option, Some, refl, ap, ◌∙◌, arith}
use Rattle.std.proofs.lemmas.List.{length-append}
use Rattle.py_syntax.specs.Tree.{Text, Pattern, literal, capture, wild, member, sequence, p_or, p_as, p_paren, Patterns, no_patterns, patterns}
use Rattle.py_code.specs.declared.instr.Instr.TheVariants.{Pop, Copy, Sink, Roll, Compare, Goto, Unless, Sequence}
use Rattle.py_code.specs.declared.instr.Question.TheVariants.{Eq}
use Rattle.py_code.specs.declared.unit.Constant.TheVariants.{Bool as BoolConstant}
use Rattle.py_compile_expr.specs.Cells.{constant, load, store, attribute, plain, Guard, Cell}
use Rattle.py_compile_expr.specs.Patterns.{kept_constant, constant_question, captured, captured_each, Site, with_waiting, with_captured, pattern_size, pattern_code, items_size, items_code, one_size, one_code, names_size, names_code}
use Rattle.py_meaning.specs.Patterns.{pattern_count}
use Rattle.py_compile.specs.Proper.{BindsNone, NoneBind, ProperPattern, ProperPatterns}
use Rattle.py_code_laws.proofs.Blocks.{Layout, Block, resize, seq}
use Rattle.py_code_laws.proofs.Pieces.{Run, At, Any, elsewhere, moved, handled_before, step, calm, fork, jump, finish, beside, only}
use Rattle.py_code_laws.proofs.ExpressionFits.{Fit}

-- where a match fails, so many operands stand
abbrev pub Fails : (b fail : ℕ) → Layout → Type 0
Fails b fail l = l.depth fail ≡ Some b

abbrev pub Match : (units : ℕ) → Site → (m b p d q f n : ℕ) → List Cell → Type 0
Match units s m b p d q f n cs = Block units (Run s.guard m q f (Fails b s.fail)) (At p d Any) p n cs

mutual
  none_captured : (q : Pattern) → BindsNone q → length (captured q) ≡ 0
  none_captured (literal minus k) h = refl
  none_captured (capture x) h = absurd h
  none_captured wild h = refl
  none_captured (member m x) h = refl
  none_captured (sequence brackets qs comma) h = none_captured_each qs h
  none_captured (p_or qs) h = refl
  none_captured (p_as q x) h = absurd h
  none_captured (p_paren q) h = none_captured q h

  none_captured_each : (qs : Patterns) → NoneBind qs → length (captured_each qs) ≡ 0
  none_captured_each no_patterns h = refl
  none_captured_each (patterns q qs) h =
      let a = none_captured q h.0 in let b = none_captured_each qs h.1 in let c = length-append (captured q) (captured_each qs) in omega arith

mutual
  binds_proper : (q : Pattern) → BindsNone q → ProperPattern q
  binds_proper (literal minus k) h = tt
  binds_proper (capture x) h = tt
  binds_proper wild h = tt
  binds_proper (member m x) h = tt
  binds_proper (sequence brackets qs comma) h = bind_proper qs h
  binds_proper (p_or qs) h = h
  binds_proper (p_as q x) h = absurd h
  binds_proper (p_paren q) h = binds_proper q h

  bind_proper : (qs : Patterns) → NoneBind qs → ProperPatterns qs
  bind_proper no_patterns h = tt
  bind_proper (patterns q qs) h = (binds_proper q h.0, bind_proper qs h.1)

mutual
  pub pattern_fits : {units : ℕ} (s : Site) (m b p d q f : ℕ) (t : Pattern) → ProperPattern t → p + pattern_size t ≡ q → q ≤ s.fail → m ≤ b → d ≡ suc (s.extra + b) → s.waiting ≤ s.extra + b → f ≡ length (captured t) + (s.extra + b)
      → Match units s m b p d q f (pattern_size t) (pattern_code s p t)
  pattern_fits s m b p d q f (literal minus k) ok at ahead le is low out =
      only (calm (constant (kept_constant minus k)) 0 1 d d (suc d) refl (omega arith) (omega arith) tt (omega arith)
      (step (plain (Compare (constant_question k))) 2 1 (s.extra + b) (suc d) d true refl (omega arith) (omega arith) (omega arith) tt (omega arith)
      (fork (plain (Unless s.extra s.fail)) (suc s.extra) s.extra 0 b d (s.extra + b) b s.fail false refl (omega arith) refl (omega arith) le tt (omega arith) (omega arith)
      (finish (omega arith) (omega arith)) (λ l there h. h.also))))
  pattern_fits s m b p d q f (capture x) ok at ahead le is low out =
      only (calm (plain (Sink s.waiting)) (suc s.waiting) (suc s.waiting) (s.extra + b - s.waiting) d d refl (omega arith) (omega arith) tt (omega arith) (finish at (omega arith)))
  pattern_fits s m b p d q f wild ok at ahead le is low out =
      only (calm (plain Pop) 1 0 (s.extra + b) d (s.extra + b) refl (omega arith) (omega arith) tt (omega arith) (finish at (omega arith)))
  pattern_fits s m b p d q f (member o x) ok at ahead le is low out =
      only (step (load o) 0 1 d d (suc d) true refl (omega arith) (omega arith) (omega arith) tt (omega arith)
      (step (attribute x) 1 1 d (suc d) (suc d) true refl (omega arith) (omega arith) (omega arith) tt (omega arith)
      (step (plain (Compare Eq)) 2 1 (s.extra + b) (suc d) d true refl (omega arith) (omega arith) (omega arith) tt (omega arith)
      (fork (plain (Unless s.extra s.fail)) (suc s.extra) s.extra 0 b d (s.extra + b) b s.fail false refl (omega arith) refl (omega arith) le tt (omega arith) (omega arith)
      (finish (omega arith) (omega arith)) (λ l there h. h.also)))))
  pattern_fits s m b p d q f (sequence brackets qs comma) ok at ahead le is low out =
      only (fork (plain (Sequence (pattern_count qs) s.extra s.fail)) (suc s.extra) (pattern_count qs + s.extra) 0 b d (pattern_count qs + (s.extra + b)) b s.fail false refl (omega arith) (omega arith) (omega arith) le tt (omega arith) (omega arith)
      (items_fit s m b (p + 1) (pattern_count qs + (s.extra + b)) q f qs ok (omega arith) ahead le refl low out) (λ l there h. h.also))
  pattern_fits s m b p d q f (p_or qs) ok at ahead le is low out = one_fits s m b p d q f (p + one_size qs) qs ok refl at ahead le is low (omega (arith, out))
  pattern_fits s m b p d q f (p_as t x) ok at ahead le is low out =
      let c = length (captured t) in
      let more = length-append (captured t) (x ∷ []) in
      resize (omega arith) (only (calm (plain (Copy 0)) 1 2 (s.extra + b) d (suc d) refl (omega arith) (omega arith) tt (omega arith)
      (beside refl (omega arith) (pattern_fits (with_waiting 1 s) m b (p + 1) (suc d) (p + 1 + pattern_size t) (c + (1 + s.extra + b)) t ok refl (omega arith) le (omega arith) (omega arith) refl)
      (calm (plain (Sink s.waiting)) (suc s.waiting) (suc s.waiting) (c + (s.extra + b) - s.waiting) (c + (1 + s.extra + b)) (c + (1 + s.extra + b)) refl (omega arith) (omega arith) tt (omega arith) (finish (omega arith) (omega arith))))))
  pattern_fits s m b p d q f (p_paren t) ok at ahead le is low out = pattern_fits s m b p d q f t ok at ahead le is low out

  items_fit : {units : ℕ} (s : Site) (m b p d q f : ℕ) (ts : Patterns) → ProperPatterns ts → p + items_size ts ≡ q → q ≤ s.fail → m ≤ b → d ≡ pattern_count ts + (s.extra + b) → s.waiting ≤ s.extra + b → f ≡ length (captured_each ts) + (s.extra + b)
      → Match units s m b p d q f (items_size ts) (items_code s p ts)
  items_fit s m b p d q f no_patterns ok at ahead le is low out = finish (omega arith) (omega arith)
  items_fit s m b p d q f (patterns t ts) ok at ahead le is low out =
      let n = pattern_count ts in
      let c = length (captured t) in
      let more = length-append (captured t) (captured_each ts) in
      only (beside refl (omega arith) (pattern_fits (with_waiting n s) m b p d (p + pattern_size t) (c + (n + s.extra + b)) t ok.0 refl (omega arith) le (omega arith) (omega arith) refl)
      (items_fit (with_captured c s) m b (p + pattern_size t) (c + (n + s.extra + b)) q f ts ok.1 (omega arith) ahead le (omega arith) (omega arith) (omega arith)))

  one_fits : {units : ℕ} (s : Site) (m b p d q f end : ℕ) (ts : Patterns) → NoneBind ts → p + one_size ts ≡ end → end ≡ q → q ≤ s.fail → m ≤ b → d ≡ suc (s.extra + b) → s.waiting ≤ s.extra + b → f ≡ s.extra + b
      → Match units s m b p d q f (one_size ts) (one_code s p end ts)
  one_fits s m b p d q f end no_patterns ok size at ahead le is low out =
      only (calm (plain Pop) 1 0 (s.extra + b) d (s.extra + b) refl (omega arith) (omega arith) tt (omega arith)
      (calm (constant (BoolConstant false)) 0 1 (s.extra + b) (s.extra + b) d refl (omega arith) (omega arith) tt (omega arith)
      (fork (plain (Unless s.extra s.fail)) (suc s.extra) s.extra 0 b d (s.extra + b) b s.fail false refl (omega arith) refl (omega arith) le tt (omega arith) (omega arith)
      (finish (omega arith) (omega arith)) (λ l there h. h.also))))
  one_fits s m b p d q f end (patterns t no_patterns) ok size at ahead le is low out =
      let c = none_captured t ok.0 in pattern_fits s m b p d q f t (binds_proper t ok.0) (omega arith) ahead le is low (omega arith)
  one_fits {units} s m b p d q f end (patterns t (patterns r rs)) ok size at ahead le is low out =
      let c = none_captured t ok.0 in
      let r1 = p + 1 + pattern_size t in
      let next = r1 + 2 in
      let inner : Site = record { guard = s.guard; waiting = 1 + s.waiting; fail = next; extra = 0 } in
      resize (omega arith) (only (calm (plain (Copy 0)) 1 2 (s.extra + b) d (suc d) refl (omega arith) (omega arith) tt (omega arith)
      (seq refl (pattern_fits inner m d (p + 1) (suc d) r1 d t (binds_proper t ok.0) refl (omega arith) (omega arith) (omega arith) (omega arith) (omega arith))
      (calm (plain Pop) 1 0 (s.extra + b) d (s.extra + b) refl (omega arith) (omega arith) tt (omega arith)
      (jump (plain (Goto end)) 0 0 (s.extra + b) (s.extra + b) d (s.extra + b) end false refl (omega arith) (omega arith) (omega arith) tt (omega arith) (omega arith)
      (moved (omega arith) (one_fits s m b next d q f end (patterns r rs) ok.1 (omega arith) at ahead le is low out)) (λ l there h. ap l.depth at ∙ h.ends ∙ ap (λ n. Some n) out)))
      (λ l h. h) (λ l there h. record { ends = there.0; handles = handled_before s.guard q r1 m l (omega arith) h.handles; also = elsewhere l there.1.1.0 (omega arith) }) (λ l here there h. (here.0, there)))))

-- the names of a match, whose values stand on top
pub names_fit : {units : ℕ} (g : Option Guard) (m p d q f : ℕ) (xs : List Text) → p + names_size xs ≡ q → d ≡ length xs + f → m ≤ f → Fit units g m p d q f (names_size xs) (names_code g xs)
names_fit g m p d q f [] at is le = finish (omega arith) (omega arith)
names_fit g m p d q f (x ∷ xs) at is le =
    resize (omega arith) (only (calm (plain (Roll (length xs))) (suc (length xs)) (suc (length xs)) f d d refl (omega arith) (omega arith) tt (omega arith)
    (calm (store x) 1 0 (length xs + f) d (length xs + f) refl (omega arith) (omega arith) tt (omega arith) (names_fit g m (p + 1 + 1) (length xs + f) q f xs (omega arith) refl le))))
