-- Steps of the machine, in the forms in which the code takes them.
use Rattle.std.proofs.Common.{◌≡◌, ℕ, Bool, true, false, cond, Some, Result, Ok, Err, refl, sym, subst, ap, ◌∙◌}
use Rattle.std.specs.declared.alloc.AllocError.{AllocError}
use Rattle.py_syntax.specs.Tree.{Expr, tuple, Exprs, no_exprs, exprs, Pairs, no_pairs}
use Rattle.py_syntax.specs.Normal.{is_target}
use Rattle.py_parse_expr.specs.declared.expr_nodes.Measured.{Measured}
use Rattle.py_parse_expr.specs.declared.expr_stack.Frame as code_frame
use Rattle.py_parse_expr.specs.declared.expr_stack.Stack.{Stack}
use Rattle.py_parse_expr.specs.declared.expr_turns.Turn.{Turn}
use Rattle.py_parse_expr.specs.declared.expr_turns.Turn.TheVariants as turn_
use Rattle.py_grammar.specs.TokenClasses.{TokenClass, t_comma, t_right_paren, t_right_bracket, t_right_brace}
use Rattle.py_grammar.specs.Machine.{snoc, targets, AfterTarget, Opener, a_call, a_list, made, post_rest, Ctx, on, Have, DictOpen, DictComma, Out, Next, Stuck, Left, close_items, leave, give, step}
use Rattle.py_parse_expr.specs.ExprViews.{view_measured, IsMeasured}
use Rattle.py_parse_expr.specs.ExprStacks.{head_of, tail_of, AreSome, view_frame, view_stack, Valid, Pops}
use Rattle.py_parse_expr.specs.ExprTurns.{is_comma, closes, close_dict, Stays, Acts}

-- an expression that goes through the frames
pub record Giving (o : Out) (limit : ℕ) (t : TokenClass) (e : Measured) (s : Stack) : Type 0 where
  pub same : o ≡ give (view_measured e) (view_stack s) t
  pub measured : IsMeasured e
  pub valid : Valid limit s

pub dict_open : (k : Ctx) (t : TokenClass) → step (DictOpen k) t ≡ close_dict no_pairs false k t
dict_open k t_right_brace = refl
dict_open k t = refl

pub dict_comma : (ps : Pairs) (k : Ctx) (t : TokenClass) → step (DictComma ps k) t ≡ close_dict ps true k t
dict_comma ps k t_right_brace = refl
dict_comma ps k t = refl

-- a bracket with items is closed, or another item begins
pub closed_items : (o : Opener) (es : Exprs) (c : Bool) (k n : Ctx) (t : TokenClass) (e : Expr) (other : Out) → closes o t ≡ true → e ≡ made o es c → n ≡ on post_rest k → close_items o es c k t other ≡ Next (Have e n)
closed_items (a_call f) es c k n t_right_paren e other h is view = ap (λ (x : Expr). Next (Have x (on post_rest k))) (sym is) ∙ ap (λ (x : Ctx). Next (Have e x)) (sym view)
closed_items a_list es c k n t_right_bracket e other h is view = ap (λ (x : Expr). Next (Have x (on post_rest k))) (sym is) ∙ ap (λ (x : Ctx). Next (Have e x)) (sym view)
closed_items o es c k n t e other h is view = absurd cc

pub open_items : (o : Opener) (es : Exprs) (c : Bool) (k : Ctx) (t : TokenClass) (other : Out) → closes o t ≡ false → close_items o es c k t other ≡ other
open_items (a_call f) es c k t_right_paren other h = absurd cc
open_items a_list es c k t_right_bracket other h = absurd cc
open_items (a_call f) es c k t other h = refl
open_items a_list es c k t other h = refl

-- a step that leaves the stack as it is
pub stays_acts : (o : Ctx → Out) (limit : ℕ) (s : Stack) (r : Result Turn AllocError) → Valid limit s → Stays o r → Acts (o (view_stack s)) limit s r
stays_acts o limit s (Ok (turn_.Next p)) valid h = (h.0 (view_stack s), h.1, valid)
stays_acts o limit s (Ok turn_.Stuck) valid h = h (view_stack s)
stays_acts o limit s (Ok turn_.Deep) valid h = absurd h
stays_acts o limit s (Ok (turn_.Left t)) valid h = (h.0 (view_stack s), h.1)
stays_acts o limit s (Err e) valid h = tt

-- the target of a `for` after a further item
pub leave_comma : (es ns : Exprs) (e : Expr) (t : TokenClass) → is_comma t ≡ true → AreSome es → ns ≡ snoc es e → is_target e ≡ true → leave e (targets (head_of es) (tail_of es)) t ≡ Next (AfterTarget (head_of ns) (tail_of ns))
leave_comma no_exprs ns e t h some is yes_it = absurd some
leave_comma (exprs f es) ns e t_comma h some is yes_it = ap (λ (b : Bool). cond b (Next (AfterTarget f (snoc es e))) Stuck) yes_it ∙ ap (λ (x : Exprs). Next (AfterTarget (head_of x) (tail_of x))) (sym is)
leave_comma (exprs f es) ns e t h some is yes_it = absurd cc

pub leave_other : (es ns : Exprs) (e : Expr) (t : TokenClass) → is_comma t ≡ false → AreSome es → ns ≡ snoc es e → is_target e ≡ true → leave e (targets (head_of es) (tail_of es)) t ≡ Left (tuple ns false)
leave_other no_exprs ns e t h some is yes_it = absurd some
leave_other (exprs f es) ns e t_comma h some is yes_it = absurd cc
leave_other (exprs f es) ns e t h some is yes_it = ap (λ (b : Bool). cond b (Left (tuple (exprs f (snoc es e)) false)) Stuck) yes_it ∙ ap (λ (x : Exprs). Left (tuple x false)) (sym is)

pub some_more : (es ns : Exprs) (e : Expr) → ns ≡ snoc es e → AreSome ns
some_more es ns e is = subst AreSome (sym is) (go es)
  where
    go : (es : Exprs) → AreSome (snoc es e)
    go no_exprs = tt
    go (exprs f es) = tt

-- ---- through a frame

abbrev pub Popped : Out → ℕ → TokenClass → Measured → Stack → code_frame.Frame → Stack → Type 0
Popped o limit t e old f new = (o ≡ give (view_measured e) (on (view_frame f) (view_stack new)) t) × Valid limit new

pub popped : (o : Out) (limit : ℕ) (t : TokenClass) (e : Measured) (old : Stack) (f : code_frame.Frame) (new : Stack) → Giving o limit t e old → Pops (Some f) old new → Valid old.limit new → Popped o limit t e old f new
popped o limit t e old f new g pops valid = (g.same ∙ ap (λ (k : Ctx). give (view_measured e) k t) pops.0, subst (λ (n : ℕ). Valid n new) g.valid.same valid)
