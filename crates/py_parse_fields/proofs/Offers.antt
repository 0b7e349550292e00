-- Which tokens a frame takes, told without trees.
use Rattle.std.proofs.Common.{◌≡◌, List, [], ◌∷◌, reverse, Some, sym, ap, ◌∙◌}
use Rattle.py_syntax.specs.Tree.{Expr}
use Rattle.py_grammar.specs.TokenClasses.{TokenClass}
use Rattle.py_grammar.specs.Machine.{Ctx, Out, give}
use Rattle.py_grammar.specs.Least.{least_name}
use Rattle.py_grammar.specs.Bare.{bare_out, Free}
use Rattle.py_grammar.proofs.View.Alike.{give_alike}
use Rattle.py_parse_fields.specs.declared.frames.Frame as code_frame
use Rattle.py_parse_fields.specs.Frames.{view_frame, view_open, view_stack, Pops}
use Rattle.py_parse_fields.specs.declared.replies.Reply.{Reply}
use Rattle.py_parse_fields.specs.Reader.{replied, Offers}

-- whatever tree stands there
pub given : (e : Expr) (k : Ctx) (t : TokenClass) → Free k → bare_out (give e k t) ≡ bare_out (give least_name k t)
given e k t h = give_alike e least_name k t h ∙ sym (give_alike least_name least_name k t h)

open_free : (fs : List code_frame.Frame) → Free (view_open fs)
open_free [] = tt
open_free (f ∷ fs) = open_free fs

pub stack_free : (fs : List code_frame.Frame) → Free (view_stack fs)
stack_free fs = open_free (reverse fs)

pub given_open : (e : Expr) (fs : List code_frame.Frame) (t : TokenClass) → bare_out (give e (view_stack fs) t) ≡ bare_out (give least_name (view_stack fs) t)
given_open e fs t = given e (view_stack fs) t (stack_free fs)

-- the innermost frame replies
pub offered : (o : Out) (old new : List code_frame.Frame) (f : code_frame.Frame) (t : TokenClass) (r : Reply) → Pops (Some f) old new → Offers (view_frame f) t r → bare_out o ≡ bare_out (give least_name (view_stack old) t) → bare_out o ≡ bare_out (replied r (view_stack new) t)
offered o old new f t r pops offers is = is ∙ ap (λ (k : Ctx). bare_out (give least_name k t)) pops.0 ∙ offers.same (view_stack new) (stack_free new)
