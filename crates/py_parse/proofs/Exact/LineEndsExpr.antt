-- A line doesn't end in an expression.
use Rattle.std.proofs.Common.{◌≡◌, Bool, true, false, cond}
use Rattle.py_syntax.specs.Tree.{Expr, tuple, compare, not', unary, Exprs, exprs}
use Rattle.py_syntax.specs.Tree as tree_
use Rattle.py_syntax.specs.declared.expr.Comparison.TheVariants.{Op}
use Rattle.py_syntax.specs.Kinds.{Kind, Newline, Indent, Dedent}
use Rattle.py_syntax.specs.Headers.{ends_line}
use Rattle.py_syntax.specs.Normal.{is_target}
use Rattle.py_grammar.specs.TokenClasses.{t_other, joined}
use Rattle.py_grammar.specs.Machine.{snoc, snoc_link, strings_of, any, one, target, targets, Opener, a_call, a_list, exprs_first, exprs_rest, cond_first, cond_test, cond_else, first, right, not_of, compare_first, compare_rest, unary_of, post_rest, in_items, index_first, in_index, slice_to, in_paren, in_key, in_value, Ctx, Outside, on, State, Want, Have, Strings, AfterOpen, AfterComma, AfterTarget, ItemsOpen, ItemsComma, DictOpen, DictComma, IndexOpen, SliceColon, AfterDot, AfterNot, AfterIs, AfterIsNot, Linked, Out, Next, Stuck, Left, close_items, give, step, class}

-- nothing goes on
abbrev pub NoNext : Out → Type 0
NoNext (Next s) = ⊥
NoNext Stuck = Unit {0}
NoNext (Left e) = Unit {0}

no_next_if : (b : Bool) (e : Expr) → NoNext (cond b (Left e) Stuck)
no_next_if true e = tt
no_next_if false e = tt

items_quit : (p : Opener) (es : Exprs) (c : Bool) (k : Ctx) (x : Kind) → NoNext (close_items p es c k (t_other x) Stuck)
items_quit (a_call f) es c k x = tt
items_quit a_list es c k x = tt

give_no_next : (e : Expr) (k : Ctx) (x : Kind) → NoNext (give e k (t_other x))
give_no_next e (Outside any) x = tt
give_no_next e (Outside one) x = tt
give_no_next e (Outside target) x = no_next_if (is_target e) e
give_no_next e (Outside (targets f es)) x = no_next_if (is_target e) (tuple (exprs f (snoc es e)) false)
give_no_next e (on exprs_first k) x = give_no_next e k x
give_no_next e (on (exprs_rest f es) k) x = give_no_next (tuple (exprs f (snoc es e)) false) k x
give_no_next e (on cond_first k) x = give_no_next e k x
give_no_next e (on (cond_test b) k) x = tt
give_no_next e (on (cond_else b c) k) x = give_no_next (tree_.cond b c e) k x
give_no_next e (on (first l) k) x = give_no_next e k x
give_no_next e (on (right i a) k) x = give_no_next (joined i a e) k x
give_no_next e (on not_of k) x = give_no_next (not' e) k x
give_no_next e (on compare_first k) x = give_no_next e k x
give_no_next e (on (compare_rest a ls p) k) x = give_no_next (compare a (snoc_link ls (Op p) e)) k x
give_no_next e (on (unary_of s) k) x = give_no_next (unary s e) k x
give_no_next e (on post_rest k) x = give_no_next e k x
give_no_next e (on (in_items o es) k) x = items_quit o (snoc es e) false k x
give_no_next e (on (index_first f) k) x = tt
give_no_next e (on (in_index f) k) x = tt
give_no_next e (on (slice_to f from) k) x = tt
give_no_next e (on in_paren k) x = tt
give_no_next e (on (in_key ps) k) x = tt
give_no_next e (on (in_value ps key) k) x = tt

other_no_next : (s : State) (x : Kind) → NoNext (step s (t_other x))
other_no_next (Want lev k) x = tt
other_no_next (Have e k) x = give_no_next e k x
other_no_next (Strings fs k) x = give_no_next (strings_of fs) k x
other_no_next (AfterOpen k) x = tt
other_no_next (AfterComma f es k) x = give_no_next (tuple (exprs f es) true) k x
other_no_next (AfterTarget f es) x = tt
other_no_next (ItemsOpen (a_call f) k) x = tt
other_no_next (ItemsOpen a_list k) x = tt
other_no_next (ItemsComma (a_call f) es k) x = tt
other_no_next (ItemsComma a_list es k) x = tt
other_no_next (DictOpen k) x = tt
other_no_next (DictComma ps k) x = tt
other_no_next (IndexOpen f k) x = tt
other_no_next (SliceColon f from k) x = tt
other_no_next (AfterDot f k) x = tt
other_no_next (AfterNot a ls k) x = tt
other_no_next (AfterIs a ls k) x = tt
other_no_next (AfterIsNot a ls k) x = tt
other_no_next (Linked a ls k) x = give_no_next (compare a ls) k x

pub step_no_next : (s : State) (t : Kind) → ends_line t ≡ true → NoNext (step s (class t))
step_no_next s Newline h = other_no_next s Newline
step_no_next s Indent h = other_no_next s Indent
step_no_next s Dedent h = other_no_next s Dedent
step_no_next s t h = absurd cc
