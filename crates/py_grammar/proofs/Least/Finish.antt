-- Each state can be brought to an end, and the tree is then its least one.
use Rattle.std.proofs.Common.{◌≡◌, ◌≤◌, ◌<◌, Bool, true, false, cond, List, [], ◌∷◌, refl, sym, ap, subst, ◌∙◌, arith}
use Rattle.py_operator.specs.declared.operator.BinOp.TheVariants as op_
use Rattle.py_operator.specs.declared.operator.CmpOp.TheVariants as cmp_
use Rattle.py_token.specs.declared.token.Keyword.TheVariants as word
use Rattle.py_token.specs.declared.token.Mark.TheVariants as mark
use Rattle.py_syntax.specs.declared.expr.Comparison.TheVariants.{Op, Is, IsNot}
use Rattle.py_syntax.specs.Tree.{Expr, none, tuple, dict, paren, not', and, unary, compare, index, slice, attr, Exprs, no_exprs, exprs, no_pairs, absent, present}
use Rattle.py_syntax.specs.Tree as tree_
use Rattle.py_syntax.specs.Kinds.{Kind, Name, Word, Sign}
use Rattle.py_syntax.specs.Normal.{Precedence, LExpr, LOr, LAnd, LSum, LTerm, LPost, rank, is_target}
use Rattle.py_grammar.specs.TokenClasses.{BinaryOperator, b_or, b_and, b_op, TokenClass, t_comma, operator_precedence, operator_right, joined, binds, begins}
use Rattle.py_grammar.specs.Machine.{snoc, snoc_pair, snoc_link, strings_of, Goal, any, one, target, targets, Opener, a_call, a_list, made, Frame, exprs_first, exprs_rest, cond_first, cond_test, cond_else, first, right, not_of, compare_first, compare_rest, unary_of, post_rest, in_items, index_first, in_index, slice_to, in_paren, in_key, in_value, Ctx, Outside, on, State, Want, Have, Strings, AfterOpen, AfterComma, AfterTarget, ItemsOpen, ItemsComma, DictOpen, DictComma, IndexOpen, SliceColon, AfterDot, AfterNot, AfterIs, AfterIsNot, Linked, Out, Stuck, Left, upto_cond, upto_or, upto_and, upto_compare, upto_sum, upto_term, upto, leave, give, step, class, Leaves, run}
use Rattle.py_grammar.specs.Least.{least_name, as_target, target_if, wants, fit, whole}
use Rattle.py_grammar.proofs.Sound.Valid.{needs, Valid, highest, operator_rank}
use Rattle.py_grammar.proofs.Sound.Spelled.{outcome}
use Rattle.py_grammar.proofs.Complete.Passes.{pass_post, pass_first, pass_compare, pass_linked, pass_cond, pass_exprs, pass_rest, give_right, give_compared, is_string}
use Rattle.py_grammar.proofs.Complete.Enclosed.{closer, item_closed}

-- an index where a target is wanted and none stands
abbrev pub patch : Bool → Expr → List Kind → List Kind
patch wanted e r = cond wanted (cond (is_target e) r (Sign mark.LeftBracket ∷ Name [] ∷ Sign mark.RightBracket ∷ r)) r

-- Tokens that close what is open round an expression, and then others.
abbrev pub closing : Ctx → Expr → List Kind → List Kind
closing (Outside g) e r = r
closing (on exprs_first k) e r = closing k e r
closing (on (exprs_rest f es) k) e r = closing k (tuple (exprs f (snoc es e)) false) r
closing (on cond_first k) e r = closing k e r
closing (on (cond_test b) k) e r = Word word.Else ∷ Name [] ∷ closing k (tree_.cond b e least_name) r
closing (on (cond_else b c) k) e r = closing k (tree_.cond b c e) r
closing (on (first l) k) e r = closing k e r
closing (on (right j a) k) e r = closing k (joined j a e) r
closing (on not_of k) e r = closing k (not' e) r
closing (on compare_first k) e r = closing k e r
closing (on (compare_rest a ls op) k) e r = closing k (compare a (snoc_link ls (Op op) e)) r
closing (on (unary_of s) k) e r = closing k (unary s e) r
closing (on post_rest k) e r = patch (wants k) e (closing k (fit k e) r)
closing (on (in_items o es) k) e r = closer o ∷ patch (wants k) (made o (snoc es e) false) (closing k (fit k (made o (snoc es e) false)) r)
closing (on (index_first f) k) e r = Sign mark.RightBracket ∷ closing k (index f e) r
closing (on (in_index f) k) e r = Sign mark.RightBracket ∷ closing k (index f e) r
closing (on (slice_to f from) k) e r = Sign mark.RightBracket ∷ patch (wants k) (slice f from (present e)) (closing k (fit k (slice f from (present e))) r)
closing (on in_paren k) e r = Sign mark.RightParen ∷ patch (wants k) (paren e) (closing k (fit k (paren e)) r)
closing (on (in_key ps) k) e r = Sign mark.Colon ∷ Name [] ∷ Sign mark.RightBrace ∷ patch (wants k) (dict (snoc_pair ps e least_name) false) (closing k (fit k (dict (snoc_pair ps e least_name) false)) r)
closing (on (in_value ps key) k) e r = Sign mark.RightBrace ∷ patch (wants k) (dict (snoc_pair ps key e) false) (closing k (fit k (dict (snoc_pair ps key e) false)) r)

-- Tokens that make what was read a whole expression, and then others.
abbrev pub finish : State → List Kind → List Kind
finish (Want lev k) r = Name [] ∷ closing (upto lev LPost k) least_name r
finish (Have e k) r = closing k e r
finish (Strings fs k) r = closing k (strings_of fs) r
finish (AfterOpen k) r = Sign mark.RightParen ∷ closing (on post_rest k) (tuple no_exprs false) r
finish (AfterComma f es k) r = closing k (tuple (exprs f es) true) r
finish (AfterTarget f es) r = r
finish (ItemsOpen o k) r = closer o ∷ closing (on post_rest k) (made o no_exprs false) r
finish (ItemsComma o es k) r = closer o ∷ closing (on post_rest k) (made o es true) r
finish (DictOpen k) r = Sign mark.RightBrace ∷ closing (on post_rest k) (dict no_pairs false) r
finish (DictComma ps k) r = Sign mark.RightBrace ∷ closing (on post_rest k) (dict ps true) r
finish (IndexOpen f k) r = Name [] ∷ Sign mark.RightBracket ∷ closing (on post_rest k) (index f least_name) r
finish (SliceColon f from k) r = Sign mark.RightBracket ∷ closing (on post_rest k) (slice f from absent) r
finish (AfterDot f k) r = Name [] ∷ closing (on post_rest k) (attr f []) r
finish (AfterNot a ls k) r = Word word.In ∷ Name [] ∷ closing (upto LSum LPost (on (compare_rest a ls cmp_.NotIn) k)) least_name r
finish (AfterIs a ls k) r = Word word.None ∷ closing k (compare a (snoc_link ls Is none)) r
finish (AfterIsNot a ls k) r = Word word.None ∷ closing k (compare a (snoc_link ls IsNot none)) r
finish (Linked a ls k) r = closing k (compare a ls) r

-- A token that may stand after all that a goal asks for.
abbrev pub Closes : Goal → TokenClass → Type 0
Closes any t = (rank (binds t) ≤ 0) × (begins t ≡ false) × (is_string t ≡ false)
Closes one t = (rank (binds t) ≤ 1) × (is_string t ≡ false)
Closes g t = (rank (binds t) ≤ 9) × (begins t ≡ false) × (is_string t ≡ false) × (t ≡ t_comma → ⊥)

-- what stands outside is a target where one is wanted
abbrev pub Meant : Ctx → Expr → Type 0
Meant (Outside target) e = is_target e ≡ true
Meant (Outside (targets f es)) e = is_target e ≡ true
Meant k e = Unit {0}

pub meant_low : (k : Ctx) (e : Expr) → rank (needs k) ≤ 9 → Meant k e
meant_low (Outside any) e h = tt
meant_low (Outside one) e h = tt
meant_low (Outside target) e h = absurd (omega arith)
meant_low (Outside (targets f es)) e h = absurd (omega arith)
meant_low (on f k) e h = tt

pub as_target_is : (e : Expr) → is_target (as_target e) ≡ true
as_target_is e = go (is_target e) refl
  where
    go : (b : Bool) → is_target e ≡ b → is_target (cond b e (index e least_name)) ≡ true
    go true is = is
    go false is = refl

pub as_target_same : (e : Expr) → is_target e ≡ true → as_target e ≡ e
as_target_same e h = ap (λ (b : Bool). cond b e (index e least_name)) h

meant_fit : (k : Ctx) (e : Expr) → Meant k (fit k e)
meant_fit (Outside any) e = tt
meant_fit (Outside one) e = tt
meant_fit (Outside target) e = as_target_is e
meant_fit (Outside (targets f es)) e = as_target_is e
meant_fit (on f k) e = tt

-- ---- what a closing begins with

-- the first token goes on with nothing that the stack waits for, and begins no expression where one may stop
abbrev pub Heads : Ctx → List Kind → Type 0
Heads k [] = ⊥
Heads k (t ∷ ts) = (rank (binds (class t)) < rank (needs k)) × (is_string (class t) ≡ false) × (rank (needs k) ≤ 1 → begins (class t) ≡ false)

-- where a target is wanted and might be added to, one stands
abbrev pub Settled : Ctx → Expr → Type 0
Settled k e = 10 ≤ rank (needs k) → wants k ≡ true → is_target e ≡ true

pub settled_low : (k : Ctx) (e : Expr) → rank (needs k) ≤ 9 → Settled k e
settled_low k e low high w = absurd (omega arith)

settled_fit : (k : Ctx) (e : Expr) → (wants k ≡ true → is_target e ≡ true) → Settled k (fit k e)
settled_fit k e h high w = ap (λ (b : Bool). is_target (target_if b e)) w ∙ as_target_is e

heads_under : (k : Ctx) (f : Frame) (ts : List Kind) → rank (needs k) ≤ rank (needs (on f k)) → 2 ≤ rank (needs (on f k)) → Heads k ts → Heads (on f k) ts
heads_under k f [] le two h = absurd h
heads_under k f (t ∷ ts) le two h = (let x = h.0 in omega arith, h.1, λ low. absurd (omega arith))

heads_outside : (g h : Goal) (e : Expr) (t : Kind) (r : List Kind) → Valid g (Outside h) → Closes g (class t) → Heads (Outside h) (t ∷ r)
heads_outside g any e t r valid c = let both = subst (λ (x : Goal). Closes x (class t)) valid c in (let x = both.0 in omega arith, both.2, λ low. both.1)
heads_outside g one e t r valid c = let both = subst (λ (x : Goal). Closes x (class t)) valid c in (let x = both.0 in omega arith, both.1, λ low. absurd (omega arith))
heads_outside g target e t r valid c = let both = subst (λ (x : Goal). Closes x (class t)) valid c in (let x = both.0 in omega arith, both.2, λ low. absurd (omega arith))
heads_outside g (targets f es) e t r valid c = let both = subst (λ (x : Goal). Closes x (class t)) valid.0 c in (let x = both.0 in omega arith, both.2, λ low. absurd (omega arith))

opener_heads : (o : Opener) (es : Exprs) (k : Ctx) (ts : List Kind) → Heads (on (in_items o es) k) (closer o ∷ ts)
opener_heads (a_call f) es k ts = (omega arith, refl, λ low. refl)
opener_heads a_list es k ts = (omega arith, refl, λ low. refl)

right_low : (j : BinaryOperator) → (rank (operator_right j) ≤ 9) × (2 ≤ rank (operator_right j)) × (rank (operator_precedence j) ≤ rank (operator_right j))
right_low b_or = (omega arith, omega arith, omega arith)
right_low b_and = (omega arith, omega arith, omega arith)
right_low (b_op op_.Add) = (omega arith, omega arith, omega arith)
right_low (b_op op_.Sub) = (omega arith, omega arith, omega arith)
right_low (b_op op_.Mul) = (omega arith, omega arith, omega arith)
right_low (b_op op_.Floor) = (omega arith, omega arith, omega arith)
right_low (b_op op_.Mod) = (omega arith, omega arith, omega arith)

goal_first : (l : Precedence) (k : Ctx) (ts : List Kind) → rank (needs k) ≤ rank l → Heads k ts → Heads (on (first l) k) ts
goal_first l k [] u h = absurd h
goal_first l k (t ∷ ts) u h = (let x = h.0 in omega arith, h.1, λ low. h.2 (omega arith))

pub heads : (g : Goal) (k : Ctx) (e : Expr) (t : Kind) (r : List Kind) → Valid g k → Closes g (class t) → Settled k e → Heads k (closing k e (t ∷ r))
heads g (Outside h) e t r valid c s = heads_outside g h e t r valid c
heads g (on exprs_first k) e t r valid c s = heads_under k exprs_first (closing k e (t ∷ r)) (let u = valid.0 in omega arith) (omega arith) (heads g k e t r valid.1 c (settled_low k e (let u = valid.0 in omega arith)))
heads g (on (exprs_rest f es) k) e t r valid c s = let u = valid.3 in let x = tuple (exprs f (snoc es e)) false in heads_under k (exprs_rest f es) (closing k x (t ∷ r)) (omega arith) (omega arith) (heads g k x t r valid.4 c (settled_low k x (omega arith)))
heads g (on cond_first k) e t r valid c s = let u = valid.0 in heads_under k cond_first (closing k e (t ∷ r)) (omega arith) (omega arith) (heads g k e t r valid.1 c (settled_low k e (omega arith)))
heads g (on (cond_test b) k) e t r valid c s = (omega arith, refl, λ low. refl)
heads g (on (cond_else b d) k) e t r valid c s = let u = valid.4 in let x = tree_.cond b d e in heads_under k (cond_else b d) (closing k x (t ∷ r)) (omega arith) (omega arith) (heads g k x t r valid.5 c (settled_low k x (omega arith)))
heads g (on (first l) k) e t r valid c s = let low = valid.0 in let u = valid.1 in goal_first l k (closing k e (t ∷ r)) u (heads g k e t r valid.2 c (settled_low k e (omega arith)))
heads g (on (right j a) k) e t r valid c s = let u = valid.2 in let low = right_low j in let lo = low.0 in let hi = low.2 in let x = joined j a e in heads_under k (right j a) (closing k x (t ∷ r)) (omega arith) low.1 (heads g k x t r valid.3 c (settled_low k x (omega arith)))
heads g (on not_of k) e t r valid c s = let u = valid.0 in heads_under k not_of (closing k (not' e) (t ∷ r)) (omega arith) (omega arith) (heads g k (not' e) t r valid.1 c (settled_low k (not' e) (omega arith)))
heads g (on compare_first k) e t r valid c s = let u = valid.0 in heads_under k compare_first (closing k e (t ∷ r)) (omega arith) (omega arith) (heads g k e t r valid.1 c (settled_low k e (omega arith)))
heads g (on (compare_rest a ls op) k) e t r valid c s = let u = valid.3 in let x = compare a (snoc_link ls (Op op) e) in heads_under k (compare_rest a ls op) (closing k x (t ∷ r)) (omega arith) (omega arith) (heads g k x t r valid.4 c (settled_low k x (omega arith)))
heads g (on (unary_of m) k) e t r valid c s = let u = valid.0 in let x = unary m e in heads_under k (unary_of m) (closing k x (t ∷ r)) (omega arith) (omega arith) (heads g k x t r valid.1 c (settled_low k x (omega arith)))
heads g (on post_rest k) e t r valid c s = go (wants k) refl (is_target e) refl (heads g k (fit k e) t r valid c (settled_fit k e (λ w. s (omega arith) w)))
  where
    go : (w : Bool) → wants k ≡ w → (b : Bool) → is_target e ≡ b → Heads k (closing k (fit k e) (t ∷ r)) → Heads (on post_rest k) (cond w (cond b (closing k (fit k e) (t ∷ r)) (Sign mark.LeftBracket ∷ Name [] ∷ Sign mark.RightBracket ∷ closing k (fit k e) (t ∷ r))) (closing k (fit k e) (t ∷ r)))
    go true w true b h = heads_under k post_rest (closing k (fit k e) (t ∷ r)) (highest (needs k)) (omega arith) h
    go true w false b h = let no_way = sym b ∙ s (omega arith) w in absurd cc
    go false w b is h = heads_under k post_rest (closing k (fit k e) (t ∷ r)) (highest (needs k)) (omega arith) h
heads g (on (in_items o es) k) e t r valid c s = opener_heads o es k (patch (wants k) (made o (snoc es e) false) (closing k (fit k (made o (snoc es e) false)) (t ∷ r)))
heads g (on (index_first f) k) e t r valid c s = (omega arith, refl, λ low. refl)
heads g (on (in_index f) k) e t r valid c s = (omega arith, refl, λ low. refl)
heads g (on (slice_to f from) k) e t r valid c s = (omega arith, refl, λ low. refl)
heads g (on in_paren k) e t r valid c s = (omega arith, refl, λ low. refl)
heads g (on (in_key ps) k) e t r valid c s = (omega arith, refl, λ low. refl)
heads g (on (in_value ps key) k) e t r valid c s = (omega arith, refl, λ low. refl)

-- ---- closing

-- what the first token of a closing passes
pub passes : (k : Ctx) (s u : State) → ((t : TokenClass) → rank (binds t) < rank (needs k) → step s t ≡ step u t) → (ts : List Kind) → Heads k ts → run s ts ≡ run u ts
passes k s u same [] h = absurd h
passes k s u same (t ∷ ts) h = ap (λ (o : Out). outcome o t ts) (same (class t) h.0)

patched : (f : Expr) (k : Ctx) (ts : List Kind) → run (Have f (on post_rest k)) (Sign mark.LeftBracket ∷ Name [] ∷ Sign mark.RightBracket ∷ ts) ≡ run (Have (index f least_name) (on post_rest k)) ts
patched f k ts = refl

leave_goal : (g h : Goal) (e : Expr) (t : Kind) (r : List Kind) → Valid g (Outside h) → Closes g (class t) → Meant (Outside h) e → run (Have e (Outside h)) (t ∷ r) ≡ Leaves (whole (Outside h) e) (t ∷ r)
leave_goal g any e t r valid c m = refl
leave_goal g one e t r valid c m = refl
leave_goal g target e t r valid c m =
    let both = subst (λ (x : Goal). Closes x (class t)) valid c in
    ap (λ (o : Out). outcome o t r) (leave_target e (class t) both.3)
    ∙ ap (λ (b : Bool). outcome (cond b (Left e) Stuck) t r) m
    ∙ ap (λ (x : Expr). Leaves x (t ∷ r)) (sym (as_target_same e m))
  where
    leave_target : (e : Expr) (t : TokenClass) → (t ≡ t_comma → ⊥) → leave e target t ≡ cond (is_target e) (Left e) Stuck
    leave_target e t_comma h = absurd (h refl)
    leave_target e t h = refl
leave_goal g (targets f es) e t r valid c m =
    let both = subst (λ (x : Goal). Closes x (class t)) valid.0 c in
    ap (λ (o : Out). outcome o t r) (leave_targets f es e (class t) both.3)
    ∙ ap (λ (b : Bool). outcome (cond b (Left (tuple (exprs f (snoc es e)) false)) Stuck) t r) m
    ∙ ap (λ (x : Expr). Leaves (tuple (exprs f (snoc es x)) false) (t ∷ r)) (sym (as_target_same e m))
  where
    leave_targets : (f : Expr) (es : Exprs) (e : Expr) (t : TokenClass) → (t ≡ t_comma → ⊥) → leave e (targets f es) t ≡ cond (is_target e) (Left (tuple (exprs f (snoc es e)) false)) Stuck
    leave_targets f es e t_comma h = absurd (h refl)
    leave_targets f es e t h = refl

-- an expression in front of its closing, where a postfix may go on
abbrev Ended : Goal → Kind → List Kind → Ctx → Expr → Type 0
Ended g t r k e = run (Have e k) (closing k e (t ∷ r)) ≡ Leaves (whole k e) (t ∷ r)

close_post : (g : Goal) (k : Ctx) (e : Expr) (t : Kind) (r : List Kind) → Valid g k → Closes g (class t) → Ended g t r k (fit k e) → run (Have e (on post_rest k)) (patch (wants k) e (closing k (fit k e) (t ∷ r))) ≡ Leaves (whole k (fit k e)) (t ∷ r)
close_post g k e t r valid c rec = go (wants k) refl (is_target e) refl
  where
    rest : List Kind
    rest = closing k (fit k e) (t ∷ r)

    front : Heads k rest
    front = heads g k (fit k e) t r valid c (λ high w. ap (λ (b : Bool). is_target (target_if b e)) w ∙ as_target_is e)

    through : (x : Expr) → x ≡ fit k e → run (Have x (on post_rest k)) rest ≡ Leaves (whole k (fit k e)) (t ∷ r)
    through x is = passes k (Have x (on post_rest k)) (Have x k) (λ u lt. pass_post x k u (let any = highest (needs k) in omega arith)) rest front ∙ ap (λ (y : Expr). run (Have y k) rest) is ∙ rec

    go : (w : Bool) → wants k ≡ w → (b : Bool) → is_target e ≡ b → run (Have e (on post_rest k)) (cond w (cond b rest (Sign mark.LeftBracket ∷ Name [] ∷ Sign mark.RightBracket ∷ rest)) rest) ≡ Leaves (whole k (fit k e)) (t ∷ r)
    go true w true b = through e (sym (ap (λ (x : Bool). target_if x e) w ∙ as_target_same e b))
    go true w false b = patched e k rest ∙ through (index e least_name) (sym (ap (λ (x : Bool). target_if x e) w ∙ ap (λ (x : Bool). cond x e (index e least_name)) b))
    go false w b is = through e (sym (ap (λ (x : Bool). target_if x e) w))

-- an index is a target
pub fit_index : (k : Ctx) (f e : Expr) → fit k (index f e) ≡ index f e
fit_index k f e = elim (wants k) as (λ b. target_if b (index f e) ≡ index f e) [ true ↦ refl | false ↦ refl ]

close_index : (g : Goal) (k : Ctx) (f e : Expr) (t : Kind) (r : List Kind) → Valid g k → Closes g (class t) → Ended g t r k (index f e) → run (Have (index f e) (on post_rest k)) (closing k (index f e) (t ∷ r)) ≡ Leaves (whole k (index f e)) (t ∷ r)
close_index g k f e t r valid c rec = passes k (Have (index f e) (on post_rest k)) (Have (index f e) k) (λ u lt. pass_post (index f e) k u (let any = highest (needs k) in omega arith)) (closing k (index f e) (t ∷ r)) (heads g k (index f e) t r valid c (λ high w. refl)) ∙ rec

pub closes : (g : Goal) (k : Ctx) (e : Expr) (t : Kind) (r : List Kind) → Valid g k → Closes g (class t) → Meant k e → run (Have e k) (closing k e (t ∷ r)) ≡ Leaves (whole k e) (t ∷ r)
closes g (Outside h) e t r valid c m = leave_goal g h e t r valid c m
closes g (on exprs_first k) e t r valid c m = let u = valid.0 in let low : rank (needs k) ≤ 9 = omega arith in
    passes k (Have e (on exprs_first k)) (Have e k) (λ v lt. pass_exprs e k v (omega arith)) (closing k e (t ∷ r)) (heads g k e t r valid.1 c (settled_low k e low)) ∙ closes g k e t r valid.1 c (meant_low k e low)
closes g (on (exprs_rest f es) k) e t r valid c m = let u = valid.3 in let low : rank (needs k) ≤ 9 = omega arith in let x = tuple (exprs f (snoc es e)) false in
    passes k (Have e (on (exprs_rest f es) k)) (Have x k) (λ v lt. pass_rest f es e k v (omega arith)) (closing k x (t ∷ r)) (heads g k x t r valid.4 c (settled_low k x low)) ∙ closes g k x t r valid.4 c (meant_low k x low)
closes g (on cond_first k) e t r valid c m = let u = valid.0 in let low : rank (needs k) ≤ 9 = omega arith in
    passes k (Have e (on cond_first k)) (Have e k) (λ v lt. pass_cond e k v (omega arith)) (closing k e (t ∷ r)) (heads g k e t r valid.1 c (settled_low k e low)) ∙ closes g k e t r valid.1 c (meant_low k e low)
closes g (on (cond_test b) k) e t r valid c m = let u = valid.2 in let low : rank (needs k) ≤ 9 = omega arith in let x = tree_.cond b e least_name in
    passes k (Have least_name (upto LExpr LPost (on (cond_else b e) k))) (Have x k) (λ v lt. name_passes b e k v (omega arith)) (closing k x (t ∷ r)) (heads g k x t r valid.3 c (settled_low k x low)) ∙ closes g k x t r valid.3 c (meant_low k x low)
  where
    name_passes : (b e : Expr) (k : Ctx) (v : TokenClass) → rank (binds v) ≤ 1 → give least_name (upto LExpr LPost (on (cond_else b e) k)) v ≡ give (tree_.cond b e least_name) k v
    name_passes b e k v le =
        pass_post least_name (upto_term LExpr (on (cond_else b e) k)) v (omega arith)
        ∙ pass_first least_name LTerm (upto_sum LExpr (on (cond_else b e) k)) v (omega arith)
        ∙ pass_first least_name LSum (upto_compare LExpr (on (cond_else b e) k)) v (omega arith)
        ∙ pass_compare least_name (upto_and LExpr (on (cond_else b e) k)) v (omega arith)
        ∙ pass_first least_name LAnd (upto_or LExpr (on (cond_else b e) k)) v (omega arith)
        ∙ pass_first least_name LOr (upto_cond LExpr (on (cond_else b e) k)) v (omega arith)
        ∙ pass_cond least_name (on (cond_else b e) k) v (omega arith)
closes g (on (cond_else b d) k) e t r valid c m = let u = valid.4 in let low : rank (needs k) ≤ 9 = omega arith in let x = tree_.cond b d e in
    passes k (Have e (on (cond_else b d) k)) (Have x k) (λ v lt. refl) (closing k x (t ∷ r)) (heads g k x t r valid.5 c (settled_low k x low)) ∙ closes g k x t r valid.5 c (meant_low k x low)
closes g (on (first l) k) e t r valid c m = let u = valid.1 in let eight = valid.0 in let low : rank (needs k) ≤ 9 = omega arith in
    passes k (Have e (on (first l) k)) (Have e k) (λ v lt. pass_first e l k v (omega arith)) (closing k e (t ∷ r)) (heads g k e t r valid.2 c (settled_low k e low)) ∙ closes g k e t r valid.2 c (meant_low k e low)
closes g (on (right j a) k) e t r valid c m = let u = valid.2 in let some = operator_rank j in let eight = some.1 in let low : rank (needs k) ≤ 9 = omega arith in let x = joined j a e in
    passes k (Have e (on (right j a) k)) (Have x k) (λ v lt. give_right j a e k v ∙ pass_first x (operator_precedence j) k v (omega arith)) (closing k x (t ∷ r)) (heads g k x t r valid.3 c (settled_low k x low)) ∙ closes g k x t r valid.3 c (meant_low k x low)
closes g (on not_of k) e t r valid c m = let u = valid.0 in let low : rank (needs k) ≤ 9 = omega arith in
    passes k (Have e (on not_of k)) (Have (not' e) k) (λ v lt. refl) (closing k (not' e) (t ∷ r)) (heads g k (not' e) t r valid.1 c (settled_low k (not' e) low)) ∙ closes g k (not' e) t r valid.1 c (meant_low k (not' e) low)
closes g (on compare_first k) e t r valid c m = let u = valid.0 in let low : rank (needs k) ≤ 9 = omega arith in
    passes k (Have e (on compare_first k)) (Have e k) (λ v lt. pass_compare e k v (omega arith)) (closing k e (t ∷ r)) (heads g k e t r valid.1 c (settled_low k e low)) ∙ closes g k e t r valid.1 c (meant_low k e low)
closes g (on (compare_rest a ls op) k) e t r valid c m = let u = valid.3 in let low : rank (needs k) ≤ 9 = omega arith in let x = compare a (snoc_link ls (Op op) e) in
    passes k (Have e (on (compare_rest a ls op) k)) (Have x k) (λ v lt. give_compared a ls op e k v ∙ pass_linked a (snoc_link ls (Op op) e) k v (omega arith)) (closing k x (t ∷ r)) (heads g k x t r valid.4 c (settled_low k x low)) ∙ closes g k x t r valid.4 c (meant_low k x low)
closes g (on (unary_of s) k) e t r valid c m = let u = valid.0 in let low : rank (needs k) ≤ 9 = omega arith in
    passes k (Have e (on (unary_of s) k)) (Have (unary s e) k) (λ v lt. refl) (closing k (unary s e) (t ∷ r)) (heads g k (unary s e) t r valid.1 c (settled_low k (unary s e) low)) ∙ closes g k (unary s e) t r valid.1 c (meant_low k (unary s e) low)
closes g (on post_rest k) e t r valid c m = close_post g k e t r valid c (closes g k (fit k e) t r valid c (meant_fit k e))
closes g (on (in_items o es) k) e t r valid c m = let x = made o (snoc es e) false in
    item_closed o es e k (patch (wants k) x (closing k (fit k x) (t ∷ r))) ∙ close_post g k x t r valid.2 c (closes g k (fit k x) t r valid.2 c (meant_fit k x))
closes g (on (index_first f) k) e t r valid c m = close_index g k f e t r valid.2 c (closes g k (index f e) t r valid.2 c (meant_index k f e))
  where
    meant_index : (k : Ctx) (f e : Expr) → Meant k (index f e)
    meant_index (Outside any) f e = tt
    meant_index (Outside one) f e = tt
    meant_index (Outside target) f e = refl
    meant_index (Outside (targets h es)) f e = refl
    meant_index (on h k) f e = tt
closes g (on (in_index f) k) e t r valid c m = close_index g k f e t r valid.2 c (closes g k (index f e) t r valid.2 c (meant_index k f e))
  where
    meant_index : (k : Ctx) (f e : Expr) → Meant k (index f e)
    meant_index (Outside any) f e = tt
    meant_index (Outside one) f e = tt
    meant_index (Outside target) f e = refl
    meant_index (Outside (targets h es)) f e = refl
    meant_index (on h k) f e = tt
closes g (on (slice_to f from) k) e t r valid c m = let x = slice f from (present e) in close_post g k x t r valid.3 c (closes g k (fit k x) t r valid.3 c (meant_fit k x))
closes g (on in_paren k) e t r valid c m = close_post g k (paren e) t r valid c (closes g k (fit k (paren e)) t r valid c (meant_fit k (paren e)))
closes g (on (in_key ps) k) e t r valid c m = let x = dict (snoc_pair ps e least_name) false in close_post g k x t r valid.1 c (closes g k (fit k x) t r valid.1 c (meant_fit k x))
closes g (on (in_value ps key) k) e t r valid c m = let x = dict (snoc_pair ps key e) false in close_post g k x t r valid.3 c (closes g k (fit k x) t r valid.3 c (meant_fit k x))
