-- What the machine keeps: the parts of its state are normal and fit their places.
use Rattle.std.proofs.Common.{◌≡◌, ◌≤◌, Bool, true, false, cond, ◌&&◌, refl, arith}
use Rattle.py_operator.specs.declared.operator.BinOp.TheVariants as op_
use Rattle.py_syntax.specs.declared.expr.Comparison.{Comparison}
use Rattle.py_syntax.specs.Tree.{Text, Expr, str, fstr, tuple, compare, Exprs, no_exprs, exprs, Pairs, no_pairs, pair, Links, no_links, link, Fragments, no_fragments, plain, format, Parts}
use Rattle.py_syntax.specs.Tokens.{more}
use Rattle.py_syntax.specs.Normal.{Precedence, LEnd, LExprs, LExpr, LOr, LAnd, LNot, LCmp, LSum, LTerm, LUnary, LPost, rank, precedence, At, Compared, HasFormat, IsSomething, Normal, NormalLinks, NormalItems, Each, NormalEntries, EachEntry, NormalBound, NormalFragments, NormalParts, is_target, are_targets}
use Rattle.py_grammar.specs.TokenClasses.{BinaryOperator, b_or, b_and, b_op, TokenClass, t_format, operator_precedence, operator_right, joined}
use Rattle.py_grammar.specs.Machine.{snoc, snoc_pair, snoc_link, snoc_plain, snoc_format, has_format, texts, strings_of, Goal, any, one, target, targets, Opener, a_call, a_list, exprs_first, exprs_rest, cond_first, cond_test, cond_else, first, right, not_of, compare_first, compare_rest, unary_of, post_rest, in_items, index_first, in_index, slice_to, in_paren, in_key, in_value, Ctx, Outside, on, State, Want, Have, Strings, AfterOpen, AfterComma, AfterTarget, ItemsOpen, ItemsComma, DictOpen, DictComma, IndexOpen, SliceColon, AfterDot, AfterNot, AfterIs, AfterIsNot, Linked, Out, Next, Stuck, Left}

-- The precedence that the hole of a stack asks for.
abbrev pub needs : Ctx → Precedence
needs (Outside any) = LExprs
needs (Outside one) = LExpr
needs (Outside g) = LPost
needs (on exprs_first k) = LExpr
needs (on (exprs_rest f es) k) = LExpr
needs (on cond_first k) = LOr
needs (on (cond_test b) k) = LOr
needs (on (cond_else b c) k) = LExpr
needs (on (first l) k) = l
needs (on (right j a) k) = operator_right j
needs (on not_of k) = LNot
needs (on compare_first k) = LSum
needs (on (compare_rest a ls op) k) = LSum
needs (on (unary_of s) k) = LUnary
needs (on post_rest k) = LPost
needs (on (in_items o es) k) = LExpr
needs (on (index_first f) k) = LExpr
needs (on (in_index f) k) = LExprs
needs (on (slice_to f from) k) = LExpr
needs (on in_paren k) = LExprs
needs (on (in_key ps) k) = LExpr
needs (on (in_value ps key) k) = LExpr

abbrev pub Under : Ctx → Precedence → Type 0
Under k l = rank (needs k) ≤ rank l

-- what a target of a `for` that is read up to a comma is
abbrev pub AreTargets : Expr → Exprs → Type 0
AreTargets f es = At LExpr f × Normal f × Each es × (is_target f ≡ true) × (are_targets es ≡ true)

abbrev pub ValidOpener : Opener → Type 0
ValidOpener (a_call f) = At LPost f × Normal f
ValidOpener a_list = Unit {0}

-- The stack is that of a reading towards this goal, and its parts are normal and fit.
abbrev pub Valid : Goal → Ctx → Type 0
Valid g (Outside (targets f es)) = (g ≡ target) × AreTargets f es
Valid g (Outside h) = g ≡ h
Valid g (on exprs_first k) = Under k LExprs × Valid g k
Valid g (on (exprs_rest f es) k) = At LExpr f × Normal f × Each es × Under k LExprs × Valid g k
Valid g (on cond_first k) = Under k LExpr × Valid g k
Valid g (on (cond_test b) k) = At LOr b × Normal b × Under k LExpr × Valid g k
Valid g (on (cond_else b c) k) = At LOr b × Normal b × At LOr c × Normal c × Under k LExpr × Valid g k
Valid g (on (first l) k) = (rank l ≤ 8) × Under k l × Valid g k
Valid g (on (right j a) k) = At (operator_precedence j) a × Normal a × Under k (operator_precedence j) × Valid g k
Valid g (on not_of k) = Under k LNot × Valid g k
Valid g (on compare_first k) = Under k LCmp × Valid g k
Valid g (on (compare_rest a ls op) k) = At LSum a × Normal a × NormalLinks ls × Under k LCmp × Valid g k
Valid g (on (unary_of s) k) = Under k LUnary × Valid g k
Valid g (on post_rest k) = Valid g k
Valid g (on (in_items o es) k) = ValidOpener o × Each es × Valid g k
Valid g (on (index_first f) k) = At LPost f × Normal f × Valid g k
Valid g (on (in_index f) k) = At LPost f × Normal f × Valid g k
Valid g (on (slice_to f from) k) = At LPost f × Normal f × NormalBound from × Valid g k
Valid g (on in_paren k) = Valid g k
Valid g (on (in_key ps) k) = EachEntry ps × Valid g k
Valid g (on (in_value ps key) k) = EachEntry ps × At LExpr key × Normal key × Valid g k

abbrev pub SomeItems : Exprs → Type 0
SomeItems no_exprs = ⊥
SomeItems (exprs e es) = Unit {0}

abbrev pub SomePairs : Pairs → Type 0
SomePairs no_pairs = ⊥
SomePairs (pair k v ps) = Unit {0}

abbrev pub SomeLinks : Links → Type 0
SomeLinks no_links = ⊥
SomeLinks (link op e ls) = Unit {0}

abbrev pub SomeStrings : Fragments → Type 0
SomeStrings no_fragments = ⊥
SomeStrings fs = Unit {0}

-- an operand and the comparisons after it
abbrev pub Compares : Goal → Expr → Links → Ctx → Type 0
Compares g a ls k = At LSum a × Normal a × NormalLinks ls × Under k LCmp × Valid g k

-- after what may go on as a postfix
abbrev pub Postfix : Ctx → Type 0
Postfix (on post_rest k) = Unit {0}
Postfix k = ⊥

abbrev pub Sound : Goal → State → Type 0
Sound g (Want lev k) = Under k lev × Valid g k
Sound g (Have e k) = At (needs k) e × Normal e × Postfix k × Valid g k
Sound g (Strings fs k) = SomeStrings fs × NormalFragments fs × Postfix k × Valid g k
Sound g (AfterOpen k) = Valid g k
Sound g (AfterComma f es k) = At LExpr f × Normal f × Each es × Under k LExprs × Valid g k
Sound g (AfterTarget f es) = (g ≡ target) × AreTargets f es
Sound g (ItemsOpen o k) = ValidOpener o × Valid g k
Sound g (ItemsComma o es k) = ValidOpener o × SomeItems es × Each es × Valid g k
Sound g (DictOpen k) = Valid g k
Sound g (DictComma ps k) = SomePairs ps × EachEntry ps × Valid g k
Sound g (IndexOpen f k) = At LPost f × Normal f × Valid g k
Sound g (SliceColon f from k) = At LPost f × Normal f × NormalBound from × Valid g k
Sound g (AfterDot f k) = At LPost f × Normal f × Valid g k
Sound g (AfterNot a ls k) = Compares g a ls k
Sound g (AfterIs a ls k) = Compares g a ls k
Sound g (AfterIsNot a ls k) = Compares g a ls k
Sound g (Linked a ls k) = SomeLinks ls × Compares g a ls k

-- the form that a goal asks for
abbrev pub Meets : Goal → Expr → Type 0
Meets any e = Unit {0}
Meets one e = At LExpr e
Meets g e = is_target e ≡ true

abbrev pub Keeps : Goal → Out → Type 0
Keeps g (Next s) = Sound g s
Keeps g Stuck = Unit {0}
Keeps g (Left e) = Normal e × Meets g e

abbrev pub ValidClass : TokenClass → Type 0
ValidClass (t_format ps) = NormalParts ps
ValidClass t = Unit {0}

-- ---- small facts

pub highest : (l : Precedence) → rank l ≤ 10
highest LEnd = omega arith
highest LExprs = omega arith
highest LExpr = omega arith
highest LOr = omega arith
highest LAnd = omega arith
highest LNot = omega arith
highest LCmp = omega arith
highest LSum = omega arith
highest LTerm = omega arith
highest LUnary = omega arith
highest LPost = omega arith

pub operator_rank : (j : BinaryOperator) → (3 ≤ rank (operator_precedence j)) × (rank (operator_precedence j) ≤ 8)
operator_rank b_or = (omega arith, omega arith)
operator_rank b_and = (omega arith, omega arith)
operator_rank (b_op op_.Add) = (omega arith, omega arith)
operator_rank (b_op op_.Sub) = (omega arith, omega arith)
operator_rank (b_op op_.Mul) = (omega arith, omega arith)
operator_rank (b_op op_.Floor) = (omega arith, omega arith)
operator_rank (b_op op_.Mod) = (omega arith, omega arith)

pub joined_level : (j : BinaryOperator) (a b : Expr) → precedence (joined j a b) ≡ operator_precedence j
joined_level b_or a b = refl
joined_level b_and a b = refl
joined_level (b_op op) a b = refl

pub joined_normal : (j : BinaryOperator) (a b : Expr) → At (operator_precedence j) a → Normal a → At (operator_right j) b → Normal b → Normal (joined j a b)
joined_normal b_or a b al an bl bn = (al, an, bl, bn)
joined_normal b_and a b al an bl bn = (al, an, bl, bn)
joined_normal (b_op op) a b al an bl bn = (al, an, bl, bn)

pub both_true : (a b : Bool) → a ≡ true → b ≡ true → (a && b) ≡ true
both_true true b h i = i
both_true false b h i = absurd cc

pub targets_snoc : (es : Exprs) (e : Expr) → are_targets es ≡ true → is_target e ≡ true → are_targets (snoc es e) ≡ true
targets_snoc no_exprs e h i = both_true (is_target e) true i refl
targets_snoc (exprs f es) e h i = go (is_target f) (are_targets es) (are_targets (snoc es e)) (λ j. targets_snoc es e j i) h
  where
    go : (a b c : Bool) → (b ≡ true → c ≡ true) → (a && b) ≡ true → (a && c) ≡ true
    go true b c more h = more h
    go false b c more h = absurd cc

pub each_snoc : (es : Exprs) (e : Expr) → Each es → At LExpr e → Normal e → Each (snoc es e)
each_snoc no_exprs e h a n = (a, n, tt)
each_snoc (exprs f es) e h a n = (h.0, h.1, each_snoc es e h.2 a n)

pub pairs_snoc : (ps : Pairs) (k v : Expr) → EachEntry ps → At LExpr k → Normal k → At LExpr v → Normal v → EachEntry (snoc_pair ps k v)
pairs_snoc no_pairs k v h ka kn va vn = (ka, kn, va, vn, tt)
pairs_snoc (pair k' v' ps) k v h ka kn va vn = (h.0, h.1, h.2, h.3, pairs_snoc ps k v h.4 ka kn va vn)

pub links_snoc : (ls : Links) (op : Comparison) (e : Expr) → NormalLinks ls → Compared op e → Normal e → NormalLinks (snoc_link ls op e)
links_snoc no_links op e h a n = (a, n, tt)
links_snoc (link op' e' ls) op e h a n = (h.0, h.1, links_snoc ls op e h.2 a n)

pub some_snoc : (es : Exprs) (e : Expr) → SomeItems (snoc es e)
some_snoc no_exprs e = tt
some_snoc (exprs f es) e = tt

pub some_pairs_snoc : (ps : Pairs) (k v : Expr) → SomePairs (snoc_pair ps k v)
some_pairs_snoc no_pairs k v = tt
some_pairs_snoc (pair k' v' ps) k v = tt

pub some_links_snoc : (ls : Links) (op : Comparison) (e : Expr) → SomeLinks (snoc_link ls op e)
some_links_snoc no_links op e = tt
some_links_snoc (link op' e' ls) op e = tt

pub plain_snoc : (fs : Fragments) (x : Text) → NormalFragments fs → NormalFragments (snoc_plain fs x)
plain_snoc no_fragments x h = tt
plain_snoc (plain y fs) x h = plain_snoc fs x h
plain_snoc (format ps fs) x h = (h.0, plain_snoc fs x h.1)

pub format_snoc : (fs : Fragments) (qs : Parts) → NormalFragments fs → NormalParts qs → NormalFragments (snoc_format fs qs)
format_snoc no_fragments qs h n = (n, tt)
format_snoc (plain y fs) qs h n = format_snoc fs qs h n
format_snoc (format ps fs) qs h n = (h.0, format_snoc fs qs h.1 n)

pub some_plain_snoc : (fs : Fragments) (x : Text) → SomeStrings (snoc_plain fs x)
some_plain_snoc no_fragments x = tt
some_plain_snoc (plain y fs) x = tt
some_plain_snoc (format ps fs) x = tt

pub some_format_snoc : (fs : Fragments) (qs : Parts) → SomeStrings (snoc_format fs qs)
some_format_snoc no_fragments qs = tt
some_format_snoc (plain y fs) qs = tt
some_format_snoc (format ps fs) qs = tt

-- what several strings are
format_is : (fs : Fragments) → has_format fs ≡ true → HasFormat fs
format_is no_fragments h = absurd cc
format_is (plain x fs) h = format_is fs h
format_is (format ps fs) h = tt

texts_some : (fs : Fragments) → SomeStrings fs → has_format fs ≡ false → IsSomething (texts fs)
texts_some no_fragments s h = absurd s
texts_some (plain x fs) s h = tt
texts_some (format ps fs) s h = absurd cc

pub strings_normal : (fs : Fragments) → SomeStrings fs → NormalFragments fs → Normal (strings_of fs) × (10 ≤ rank (precedence (strings_of fs)))
strings_normal fs s n = go (has_format fs) refl
  where
    go : (b : Bool) → has_format fs ≡ b → Normal (cond b (fstr fs) (str (texts fs))) × (10 ≤ rank (precedence (cond b (fstr fs) (str (texts fs)))))
    go true is = ((format_is fs is, n), omega arith)
    go false is = (texts_some fs s is, omega arith)

-- what a list of items with a first one is
pub tuple_snoc : (f : Expr) (es : Exprs) (e : Expr) (c : Bool) → At LExpr f → Normal f → Each es → At LExpr e → Normal e → Normal (tuple (exprs f (snoc es e)) c)
tuple_snoc f no_exprs e c af nf h a n = (af, nf, a, n, tt)
tuple_snoc f (exprs g es) e c af nf h a n = (af, nf, h.0, h.1, each_snoc es e h.2 a n)

pub tuple_comma : (f : Expr) (es : Exprs) → At LExpr f → Normal f → Each es → Normal (tuple (exprs f es) true)
tuple_comma f no_exprs af nf h = (af, nf, refl)
tuple_comma f (exprs g es) af nf h = (af, nf, h.0, h.1, h.2)

pub items_some : (es : Exprs) (c : Bool) → SomeItems es → Each es → NormalItems es c
items_some no_exprs c s h = absurd s
items_some (exprs e es) c s h = h

pub entries_some : (ps : Pairs) (c : Bool) → SomePairs ps → EachEntry ps → NormalEntries ps c
entries_some no_pairs c s h = absurd s
entries_some (pair k v ps) c s h = h

pub compare_some : (a : Expr) (ls : Links) → SomeLinks ls → At LSum a → Normal a → NormalLinks ls → Normal (compare a ls)
compare_some a no_links s al an h = absurd s
compare_some a (link op e ls) s al an h = (al, an, h.0, h.1, h.2)
