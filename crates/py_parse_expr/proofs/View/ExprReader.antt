-- From the code's walk over the tokens of an expression to what it answers.
use Rattle.std.proofs.Common.{◌≡◌, ℕ, ◌+◌, ◌≤◌, ◌<◌, nat_le, Bool, true, false, cond, List, ◌∷◌, length, drop, get_or, refl, sym, ap, subst, ◌∙◌, arith}
use Rattle.std.proofs.lemmas.Bool.{le-leb, lt-leb}
use Rattle.std.proofs.lemmas.List.{drop_all}
use Rattle.py_token.specs.declared.token.Token.{Token}
use Rattle.py_syntax.specs.Spelling.{HEIGHT}
use Rattle.py_syntax.specs.Kinds.{Kind}
use Rattle.py_parse_expr.specs.declared.expr_nodes.Measured.{Measured}
use Rattle.py_parse_fields.specs.declared.operators.Precedence.{Precedence}
use Rattle.py_parse_expr.specs.declared.expr_stack.Stack.{Stack}
use Rattle.py_parse_expr.specs.declared.expr_turns.Progress.{Progress}
use Rattle.py_parse_expr.specs.declared.expr_turns.Progress.TheVariants as progress_
use Rattle.py_parse_expr.specs.declared.expr_turns.Turn.{Turn}
use Rattle.py_parse_expr.specs.declared.expr_turns.Turn.TheVariants as turn_
use Rattle.py_grammar.specs.Machine.{Goal, Outside, State, Want, Out, Next, Stuck, Left, step, start, class}
use Rattle.py_grammar.specs.Least.{least}
use Rattle.py_grammar.specs.Reading.{Ending, Unexpected, TooDeep, Reads, within, EndsAt}
use Rattle.py_parse_fields.specs.Frames.{view_precedence}
use Rattle.py_parse_expr.specs.ExprViews.{view_measured}
use Rattle.py_parse_expr.specs.ExprStacks.{view_stack, Valid}
use Rattle.py_parse_expr.specs.ExprTurns.{view_at, ValidAt}
use Rattle.py_parse_expr.specs.ExprFields.{has_spelled_fields, IsHighIf, GoesTo}
use Rattle.py_grammar.proofs.View.Places.{kinds_of_all, kind_at, kinds_length, kind_there}

-- The reading has come so far.
pub record Reading (goal : Goal) (ts : List Kind) (at place : ℕ) (p : Progress) (s : Stack) : Type 0 where
  pub forward : at ≤ place
  pub inside : place ≤ length ts
  pub same : within HEIGHT (start goal) (drop at ts) ≡ within HEIGHT (view_at p (view_stack s)) (drop place ts)
  pub going : ValidAt p
  pub valid : Valid HEIGHT s

pub starts : (goal : Goal) (tokens : List Token) (at : ℕ) (l : Precedence) (s : Stack) → at ≤ length tokens → start goal ≡ Want (view_precedence l) (Outside goal) → view_stack s ≡ Outside goal → Valid HEIGHT s → Reading goal (kinds_of_all tokens) at at (progress_.Want l) s
starts goal tokens at l s le begins view valid =
    let e = kinds_length tokens in
    record { forward = omega arith; inside = omega arith; same = ap (λ (x : State). within HEIGHT x (drop at (kinds_of_all tokens))) (begins ∙ ap (Want (view_precedence l)) (sym view)); going = tt; valid = valid }

abbrev ending : Out → Kind → List Kind → Ending
ending o t ts = elim o as (λ (w : Out). Ending) [ Next n ↦ cond (nat_le (least n) HEIGHT) (within HEIGHT n ts) (TooDeep (t ∷ ts)) | Stuck ↦ Unexpected (t ∷ ts) | Left e ↦ Reads e (t ∷ ts) ]

-- ---- what each turn of the walk answers

module _ (goal : Goal) (tokens : List Token) (at place : ℕ) (p : Progress) (s new : Stack) (t : Token) (turn : Turn) (h : Reading goal (kinds_of_all tokens) at place p s) (lt : place < length tokens) (goes : GoesTo (step (view_at p (view_stack s)) (class (kind_at (get_or tokens place t)))) s.limit new (kind_at (get_or tokens place t)) turn) where
  there : drop place (kinds_of_all tokens) ≡ kind_at (get_or tokens place t) ∷ drop (place + 1) (kinds_of_all tokens)
  there = kind_there tokens place t lt

  stepped : (o : Out) → step (view_at p (view_stack s)) (class (kind_at (get_or tokens place t))) ≡ o → within HEIGHT (start goal) (drop at (kinds_of_all tokens)) ≡ ending o (kind_at (get_or tokens place t)) (drop (place + 1) (kinds_of_all tokens))
  stepped o is = h.same ∙ ap (within HEIGHT (view_at p (view_stack s))) there ∙ ap (λ (w : Out). ending w (kind_at (get_or tokens place t)) (drop (place + 1) (kinds_of_all tokens))) is

  as_turn : (u : Turn) → turn ≡ u → GoesTo (step (view_at p (view_stack s)) (class (kind_at (get_or tokens place t)))) s.limit new (kind_at (get_or tokens place t)) u
  as_turn u is = subst (GoesTo (step (view_at p (view_stack s)) (class (kind_at (get_or tokens place t)))) s.limit new (kind_at (get_or tokens place t))) is goes

  ends : (end : List Kind → Ending) (o : Out) → step (view_at p (view_stack s)) (class (kind_at (get_or tokens place t))) ≡ o → ending o (kind_at (get_or tokens place t)) (drop (place + 1) (kinds_of_all tokens)) ≡ end (kind_at (get_or tokens place t) ∷ drop (place + 1) (kinds_of_all tokens)) → EndsAt HEIGHT (start goal) (kinds_of_all tokens) at place end
  ends end o is so = record { forward = h.forward; inside = h.inside; ends = stepped o is ∙ so ∙ ap end (sym there) }

  pub turn_next : (n : Progress) → turn ≡ turn_.Next n → Reading goal (kinds_of_all tokens) at (place + 1) n new
  turn_next n is =
      let g = as_turn (turn_.Next n) is in
      let forward = h.forward in
      let e = kinds_length tokens in
      let same = h.valid.same in
      let low = g.3 in
      record {
        forward = omega arith;
        inside = omega arith;
        same = stepped (Next (view_at n (view_stack new))) g.0 ∙ ap (λ (b : Bool). cond b (within HEIGHT (view_at n (view_stack new)) (drop (place + 1) (kinds_of_all tokens))) (TooDeep (kind_at (get_or tokens place t) ∷ drop (place + 1) (kinds_of_all tokens)))) (le-leb (least (view_at n (view_stack new))) HEIGHT (omega arith));
        going = g.1;
        valid = subst (λ (l : ℕ). Valid l new) h.valid.same g.2;
      }

  pub turn_stuck : turn ≡ turn_.Stuck → EndsAt HEIGHT (start goal) (kinds_of_all tokens) at place Unexpected
  turn_stuck is = ends Unexpected Stuck (as_turn turn_.Stuck is) refl

  pub turn_left : (e : Measured) → turn ≡ turn_.Left e → EndsAt HEIGHT (start goal) (kinds_of_all tokens) at place (Reads (view_measured e))
  turn_left e is = ends (Reads (view_measured e)) (Left (view_measured e)) (as_turn (turn_.Left e) is).0 refl

  same_kind : (u : Token) → kind_at (get_or tokens place u) ≡ kind_at (get_or tokens place t)
  same_kind u = let both : kind_at (get_or tokens place u) ∷ drop (place + 1) (kinds_of_all tokens) ≡ kind_at (get_or tokens place t) ∷ drop (place + 1) (kinds_of_all tokens) = sym (kind_there tokens place u lt) ∙ there in cc

  pub turn_deep : turn ≡ turn_.Deep → (u : Token) → true ≡ has_spelled_fields (kind_at (get_or tokens place u)) → EndsAt HEIGHT (start goal) (kinds_of_all tokens) at place TooDeep
  turn_deep is u spelled =
      let high = subst (λ (b : Bool). IsHighIf b s.limit (step (view_at p (view_stack s)) (class (kind_at (get_or tokens place t))))) (sym (spelled ∙ ap has_spelled_fields (same_kind u))) (as_turn turn_.Deep is) in
      let same = h.valid.same in
      let above = high.2 in
      ends TooDeep (Next high.0) high.1 (ap (λ (b : Bool). cond b (within HEIGHT high.0 (drop (place + 1) (kinds_of_all tokens))) (TooDeep (kind_at (get_or tokens place t) ∷ drop (place + 1) (kinds_of_all tokens)))) (lt-leb (least high.0) HEIGHT (omega arith)))

  pub turn_bad : turn ≡ turn_.Deep → (u : Token) → false ≡ has_spelled_fields (kind_at (get_or tokens place u)) → EndsAt HEIGHT (start goal) (kinds_of_all tokens) at place Unexpected
  turn_bad is u bad = ends Unexpected Stuck (subst (λ (b : Bool). IsHighIf b s.limit (step (view_at p (view_stack s)) (class (kind_at (get_or tokens place t))))) (sym (bad ∙ ap has_spelled_fields (same_kind u))) (as_turn turn_.Deep is)) refl

pub over_there : (goal : Goal) (tokens : List Token) (at place : ℕ) (p : Progress) (s : Stack) → Reading goal (kinds_of_all tokens) at place p s → length tokens ≤ place → EndsAt HEIGHT (start goal) (kinds_of_all tokens) at place Unexpected
over_there goal tokens at place p s h le =
    let e = kinds_length tokens in
    let none = drop_all place (kinds_of_all tokens) (omega arith) in
    record { forward = h.forward; inside = h.inside; ends = h.same ∙ ap (within HEIGHT (view_at p (view_stack s))) none ∙ ap Unexpected (sym none) }
