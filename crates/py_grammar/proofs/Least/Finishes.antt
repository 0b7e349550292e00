-- Each state can be brought to an end.
use Rattle.std.proofs.Common.{◌≡◌, ◌≤◌, Bool, true, false, cond, List, [], ◌∷◌, refl, ap, subst, ◌∙◌, arith}
use Rattle.py_operator.specs.declared.operator.CmpOp.TheVariants as cmp_
use Rattle.py_token.specs.declared.token.Mark.TheVariants as mark
use Rattle.py_syntax.specs.declared.expr.Comparison.TheVariants.{Is, IsNot}
use Rattle.py_syntax.specs.Tree.{Expr, none, tuple, dict, compare, index, slice, attr, Exprs, no_exprs, exprs, no_pairs, Links, absent, Fragments}
use Rattle.py_syntax.specs.Kinds.{Kind, Name, Sign}
use Rattle.py_syntax.specs.Normal.{Precedence, LExprs, LExpr, LOr, LAnd, LCmp, LSum, LTerm, LPost, rank, is_target}
use Rattle.py_grammar.specs.TokenClasses.{begins}
use Rattle.py_grammar.specs.Machine.{at_most, snoc_link, strings_of, Goal, targets, made, exprs_first, exprs_rest, cond_first, first, compare_first, compare_rest, post_rest, Ctx, Outside, on, State, Want, Have, Strings, AfterOpen, AfterComma, AfterTarget, ItemsOpen, ItemsComma, DictOpen, DictComma, IndexOpen, SliceColon, AfterDot, AfterNot, AfterIs, AfterIsNot, Linked, Out, Left, upto_exprs, upto_cond, upto_or, upto_and, upto_compare, upto_sum, upto_term, upto, begin, give, class, Leaves, run}
use Rattle.py_grammar.specs.Least.{least_name, target_if, wants, fit, whole, finished}
use Rattle.py_grammar.proofs.Sound.Valid.{needs, Under, Valid, Postfix, Sound}
use Rattle.py_grammar.proofs.Sound.Keeps.{term_fits}
use Rattle.py_grammar.proofs.Sound.Spelled.{outcome}
use Rattle.py_grammar.proofs.Complete.Passes.{pass_linked, is_string}
use Rattle.py_grammar.proofs.Complete.Enclosed.{items_closed, none_closed}
use Rattle.py_grammar.proofs.Complete.{give_strings}
use Rattle.py_grammar.proofs.Least.Finish.{closing, finish, Closes, Meant, meant_low, as_target_is, settled_low, heads, Heads, passes, fit_index, closes}

-- ---- the frames that are pushed add nothing

exprs_whole : (lev : Precedence) (k : Ctx) (e : Expr) → whole (upto_exprs lev k) e ≡ whole k e
exprs_whole lev k e = elim (at_most lev LExprs) as (λ b. whole (cond b (on exprs_first k) k) e ≡ whole k e) [ true ↦ refl | false ↦ refl ]

cond_whole : (lev : Precedence) (k : Ctx) (e : Expr) → whole (upto_cond lev k) e ≡ whole k e
cond_whole lev k e = elim (at_most lev LExpr) as (λ b. whole (cond b (on cond_first (upto_exprs lev k)) k) e ≡ whole k e) [ true ↦ exprs_whole lev k e | false ↦ refl ]

or_whole : (lev : Precedence) (k : Ctx) (e : Expr) → whole (upto_or lev k) e ≡ whole k e
or_whole lev k e = elim (at_most lev LOr) as (λ b. whole (cond b (on (first LOr) (upto_cond lev k)) k) e ≡ whole k e) [ true ↦ cond_whole lev k e | false ↦ refl ]

pub and_whole : (lev : Precedence) (k : Ctx) (e : Expr) → whole (upto_and lev k) e ≡ whole k e
and_whole lev k e = elim (at_most lev LAnd) as (λ b. whole (cond b (on (first LAnd) (upto_or lev k)) k) e ≡ whole k e) [ true ↦ or_whole lev k e | false ↦ refl ]

compare_whole : (lev : Precedence) (k : Ctx) (e : Expr) → whole (upto_compare lev k) e ≡ whole k e
compare_whole lev k e = elim (at_most lev LCmp) as (λ b. whole (cond b (on compare_first (upto_and lev k)) k) e ≡ whole k e) [ true ↦ and_whole lev k e | false ↦ refl ]

sum_whole : (lev : Precedence) (k : Ctx) (e : Expr) → whole (upto_sum lev k) e ≡ whole k e
sum_whole lev k e = elim (at_most lev LSum) as (λ b. whole (cond b (on (first LSum) (upto_compare lev k)) k) e ≡ whole k e) [ true ↦ compare_whole lev k e | false ↦ refl ]

pub term_whole : (lev : Precedence) (k : Ctx) (e : Expr) → whole (upto_term lev k) e ≡ whole k e
term_whole lev k e = elim (at_most lev LTerm) as (λ b. whole (cond b (on (first LTerm) (upto_sum lev k)) k) e ≡ whole k e) [ true ↦ sum_whole lev k e | false ↦ refl ]

exprs_wants : (lev : Precedence) (k : Ctx) → wants (upto_exprs lev k) ≡ wants k
exprs_wants lev k = elim (at_most lev LExprs) as (λ b. wants (cond b (on exprs_first k) k) ≡ wants k) [ true ↦ refl | false ↦ refl ]

cond_wants : (lev : Precedence) (k : Ctx) → wants (upto_cond lev k) ≡ wants k
cond_wants lev k = elim (at_most lev LExpr) as (λ b. wants (cond b (on cond_first (upto_exprs lev k)) k) ≡ wants k) [ true ↦ exprs_wants lev k | false ↦ refl ]

or_wants : (lev : Precedence) (k : Ctx) → wants (upto_or lev k) ≡ wants k
or_wants lev k = elim (at_most lev LOr) as (λ b. wants (cond b (on (first LOr) (upto_cond lev k)) k) ≡ wants k) [ true ↦ cond_wants lev k | false ↦ refl ]

and_wants : (lev : Precedence) (k : Ctx) → wants (upto_and lev k) ≡ wants k
and_wants lev k = elim (at_most lev LAnd) as (λ b. wants (cond b (on (first LAnd) (upto_or lev k)) k) ≡ wants k) [ true ↦ or_wants lev k | false ↦ refl ]

compare_wants : (lev : Precedence) (k : Ctx) → wants (upto_compare lev k) ≡ wants k
compare_wants lev k = elim (at_most lev LCmp) as (λ b. wants (cond b (on compare_first (upto_and lev k)) k) ≡ wants k) [ true ↦ and_wants lev k | false ↦ refl ]

sum_wants : (lev : Precedence) (k : Ctx) → wants (upto_sum lev k) ≡ wants k
sum_wants lev k = elim (at_most lev LSum) as (λ b. wants (cond b (on (first LSum) (upto_compare lev k)) k) ≡ wants k) [ true ↦ compare_wants lev k | false ↦ refl ]

pub term_wants : (lev : Precedence) (k : Ctx) → wants (upto_term lev k) ≡ wants k
term_wants lev k = elim (at_most lev LTerm) as (λ b. wants (cond b (on (first LTerm) (upto_sum lev k)) k) ≡ wants k) [ true ↦ sum_wants lev k | false ↦ refl ]

-- an expression where a postfix may go on, in the stack under the frames that are pushed for it
pub post_whole : (lev : Precedence) (k : Ctx) (e : Expr) → whole (upto lev LPost k) e ≡ whole k (fit k e)
post_whole lev k e = term_whole lev k (fit (upto_term lev k) e) ∙ ap (λ (b : Bool). whole k (target_if b e)) (term_wants lev k)

fit_name : (k : Ctx) → fit k least_name ≡ least_name
fit_name k = elim (wants k) as (λ b. target_if b least_name ≡ least_name) [ true ↦ refl | false ↦ refl ]

pub name_whole : (lev : Precedence) (k : Ctx) → whole (upto lev LPost k) least_name ≡ whole k least_name
name_whole lev k = post_whole lev k least_name ∙ ap (whole k) (fit_name k)

-- ---- states

meant_post : (k : Ctx) (e : Expr) → Postfix k → Meant k e
meant_post (Outside g) e p = absurd p
meant_post (on f k) e p = tt

-- what closes a string goes on with none
abbrev NoString : List Kind → Type 0
NoString [] = ⊥
NoString (t ∷ ts) = is_string (class t) ≡ false

heads_no_string : (k : Ctx) (ts : List Kind) → Heads k ts → NoString ts
heads_no_string k [] h = absurd h
heads_no_string k (t ∷ ts) h = h.1

no_string : (g : Goal) (k : Ctx) (e : Expr) (t : Kind) (r : List Kind) → Postfix k → Valid g k → Closes g (class t) → NoString (closing k e (t ∷ r))
no_string g (on post_rest k) e t r p valid c = go (wants k) refl (is_target e)
  where
    rest : List Kind
    rest = closing k (fit k e) (t ∷ r)

    front : NoString rest
    front = heads_no_string k rest (heads g k (fit k e) t r valid c (λ high w. ap (λ (b : Bool). is_target (target_if b e)) w ∙ as_target_is e))

    go : (w : Bool) → wants k ≡ w → (b : Bool) → NoString (cond w (cond b rest (Sign mark.LeftBracket ∷ Name [] ∷ Sign mark.RightBracket ∷ rest)) rest)
    go true w true = front
    go true w false = refl
    go false w b = front
no_string g k e t r p valid c = absurd p

strings_pass : (fs : Fragments) (k : Ctx) (ts : List Kind) → NoString ts → run (Strings fs k) ts ≡ run (Have (strings_of fs) k) ts
strings_pass fs k [] h = absurd h
strings_pass fs k (t ∷ ts) h = ap (λ (o : Out). outcome o t ts) (give_strings fs k (class t) h)

comma_pass : (f : Expr) (es : Exprs) (k : Ctx) (ts : List Kind) → rank (needs k) ≤ 1 → Heads k ts → run (AfterComma f es k) ts ≡ run (Have (tuple (exprs f es) true) k) ts
comma_pass f es k [] low h = absurd h
comma_pass f es k (t ∷ ts) low h = ap (λ (c : Bool). outcome (cond c (begin LExpr (on (exprs_rest f es) k) (class t)) (give (tuple (exprs f es) true) k (class t))) t ts) (h.2 low)

linked_closes : (g : Goal) (a : Expr) (ls : Links) (k : Ctx) (t : Kind) (r : List Kind) → Under k LCmp → Valid g k → Closes g (class t) → run (Linked a ls k) (closing k (compare a ls) (t ∷ r)) ≡ Leaves (whole k (compare a ls)) (t ∷ r)
linked_closes g a ls k t r u valid c =
    let low : rank (needs k) ≤ 9 = omega arith in
    passes k (Linked a ls k) (Have (compare a ls) k) (λ v lt. pass_linked a ls k v (omega arith)) (closing k (compare a ls) (t ∷ r)) (heads g k (compare a ls) t r valid c (settled_low k (compare a ls) low))
    ∙ closes g k (compare a ls) t r valid c (meant_low k (compare a ls) low)

name_closes : (g : Goal) (lev : Precedence) (k : Ctx) (t : Kind) (r : List Kind) → Under k lev → Valid g k → Closes g (class t) → run (Have least_name (upto lev LPost k)) (closing (upto lev LPost k) least_name (t ∷ r)) ≡ Leaves (whole k least_name) (t ∷ r)
name_closes g lev k t r u valid c = closes g (upto lev LPost k) least_name t r (term_fits g lev k u valid).0 c tt ∙ ap (λ (e : Expr). Leaves e (t ∷ r)) (name_whole lev k)

target_closes : (f : Expr) (es : Exprs) (t : Kind) (r : List Kind) → begins (class t) ≡ false → run (AfterTarget f es) (t ∷ r) ≡ Leaves (tuple (exprs f es) true) (t ∷ r)
target_closes f es t r h = ap (λ (b : Bool). outcome (cond b (begin LPost (Outside (targets f es)) (class t)) (Left (tuple (exprs f es) true))) t r) h

-- What closes a sound state leaves its least tree.
pub finishes : (g : Goal) (s : State) (t : Kind) (r : List Kind) → Sound g s → Closes g (class t) → run s (finish s (t ∷ r)) ≡ Leaves (finished s) (t ∷ r)
finishes g (Want lev k) t r h c = name_closes g lev k t r h.0 h.1 c
finishes g (Have e k) t r h c = closes g k e t r h.3 c (meant_post k e h.2)
finishes g (Strings fs k) t r h c = strings_pass fs k (closing k (strings_of fs) (t ∷ r)) (no_string g k (strings_of fs) t r h.2 h.3 c) ∙ closes g k (strings_of fs) t r h.3 c (meant_post k (strings_of fs) h.2)
finishes g (AfterOpen k) t r h c = closes g (on post_rest k) (tuple no_exprs false) t r h c tt
finishes g (AfterComma f es k) t r h c =
    let u = h.3 in
    let low : rank (needs k) ≤ 9 = omega arith in
    let x = tuple (exprs f es) true in
    comma_pass f es k (closing k x (t ∷ r)) u (heads g k x t r h.4 c (settled_low k x low)) ∙ closes g k x t r h.4 c (meant_low k x low)
finishes g (AfterTarget f es) t r h c = let both = subst (λ (x : Goal). Closes x (class t)) h.0 c in target_closes f es t r both.1
finishes g (ItemsOpen o k) t r h c = none_closed o false k (closing (on post_rest k) (made o no_exprs false) (t ∷ r)) refl ∙ closes g (on post_rest k) (made o no_exprs false) t r h.1 c tt
finishes g (ItemsComma o es k) t r h c = items_closed o es k (closing (on post_rest k) (made o es true) (t ∷ r)) ∙ closes g (on post_rest k) (made o es true) t r h.3 c tt
finishes g (DictOpen k) t r h c = closes g (on post_rest k) (dict no_pairs false) t r h c tt
finishes g (DictComma ps k) t r h c = closes g (on post_rest k) (dict ps true) t r h.2 c tt
finishes g (IndexOpen f k) t r h c = closes g (on post_rest k) (index f least_name) t r h.2 c tt ∙ ap (λ (e : Expr). Leaves (whole k e) (t ∷ r)) (fit_index k f least_name)
finishes g (SliceColon f from k) t r h c = closes g (on post_rest k) (slice f from absent) t r h.3 c tt
finishes g (AfterDot f k) t r h c = closes g (on post_rest k) (attr f []) t r h.2 c tt
finishes g (AfterNot a ls k) t r h c = name_closes g LSum (on (compare_rest a ls cmp_.NotIn) k) t r (omega arith) h c
finishes g (AfterIs a ls k) t r h c = linked_closes g a (snoc_link ls Is none) k t r h.3 h.4 c
finishes g (AfterIsNot a ls k) t r h c = linked_closes g a (snoc_link ls IsNot none) k t r h.3 h.4 c
finishes g (Linked a ls k) t r h c = linked_closes g a ls k t r h.1.3 h.1.4 c
