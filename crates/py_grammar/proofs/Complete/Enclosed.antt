-- Items and brackets: the tokens of a normal tree lead the machine to that tree, where those of its parts do.
use Rattle.std.proofs.Common.{◌≡◌, ◌≤◌, Bool, true, false, cond, List, [], ◌∷◌, refl, sym, ap, ◌∙◌, arith}
use Rattle.py_token.specs.declared.token.Mark.TheVariants as mark
use Rattle.py_syntax.specs.Tree.{Text, Expr, tuple, list, dict, paren, call, index, slice, attr, Exprs, no_exprs, exprs, Pairs, no_pairs, pair, OptExpr, absent, present}
use Rattle.py_syntax.specs.Kinds.{Kind, Name, Sign}
use Rattle.py_syntax.specs.Tokens.{tokens, items, more, more_entries, bound}
use Rattle.py_syntax.specs.Normal.{Precedence, LEnd, LExprs, LExpr, LPost, rank, precedence, At, Normal, NormalItems, Each, NormalEntries, EachEntry, NormalBound}
use Rattle.py_grammar.specs.TokenClasses.{binds}
use Rattle.py_grammar.specs.Machine.{snoc, snoc_pair, Opener, a_call, a_list, made, exprs_first, exprs_rest, post_rest, in_items, index_first, in_index, slice_to, in_paren, in_key, in_value, Ctx, on, Want, Have, AfterOpen, AfterComma, ItemsOpen, ItemsComma, DictOpen, DictComma, IndexOpen, SliceColon, Out, upto_exprs, upto_term, upto, begin, give, class, run}
use Rattle.py_grammar.proofs.Sound.Valid.{highest}
use Rattle.py_grammar.proofs.Sound.Spelled.{outcome}
use Rattle.py_grammar.proofs.Complete.Passes.{pass_exprs, pass_rest, After, Ends, stops, after_binds, after_more, ends_after, follows, follows_end, ends, stops_expr, settles, is_string}
use Rattle.py_grammar.proofs.Complete.Opens.{begin_alike, after_open, after_comma, items_open, items_comma, dict_open, dict_comma, index_open, slice_colon}
use Rattle.py_grammar.proofs.Complete.Operators.{Back, level_low, read_part}

-- ---- lists

pub join_exprs : Exprs → Exprs → Exprs
join_exprs no_exprs es = es
join_exprs (exprs e ds) es = exprs e (join_exprs ds es)

pub join_snoc : (ds : Exprs) (e : Expr) (es : Exprs) → join_exprs (snoc ds e) es ≡ join_exprs ds (exprs e es)
unfolding join_exprs
join_snoc no_exprs e es = refl
join_snoc (exprs d ds) e es = ap (λ (x : Exprs). exprs d x) (join_snoc ds e es)

pub join_none : (ds : Exprs) → join_exprs ds no_exprs ≡ ds
unfolding join_exprs
join_none no_exprs = refl
join_none (exprs d ds) = ap (λ (x : Exprs). exprs d x) (join_none ds)

pub join_one : (e : Expr) (es : Exprs) → join_exprs (exprs e no_exprs) es ≡ exprs e es
unfolding join_exprs
join_one e es = refl

pub join_pairs : Pairs → Pairs → Pairs
join_pairs no_pairs ps = ps
join_pairs (pair k v ds) ps = pair k v (join_pairs ds ps)

join_pairs_snoc : (ds : Pairs) (k v : Expr) (ps : Pairs) → join_pairs (snoc_pair ds k v) ps ≡ join_pairs ds (pair k v ps)
unfolding join_pairs
join_pairs_snoc no_pairs k v ps = refl
join_pairs_snoc (pair k' v' ds) k v ps = ap (λ (x : Pairs). pair k' v' x) (join_pairs_snoc ds k v ps)

join_pairs_none : (ds : Pairs) → join_pairs ds no_pairs ≡ ds
unfolding join_pairs
join_pairs_none no_pairs = refl
join_pairs_none (pair k v ds) = ap (λ (x : Pairs). pair k v x) (join_pairs_none ds)

abbrev pub AllBack : Exprs → Type 0
AllBack no_exprs = Unit {0}
AllBack (exprs e es) = Back e × AllBack es

abbrev pub AllBackPairs : Pairs → Type 0
AllBackPairs no_pairs = Unit {0}
AllBackPairs (pair k v ps) = Back k × Back v × AllBackPairs ps

abbrev pub BackBound : OptExpr → Type 0
BackBound absent = Unit {0}
BackBound (present e) = Back e

more_after : (es : Exprs) (c : Bool) (rest : List Kind) → Ends rest → After 1 (more es c rest)
more_after no_exprs true rest b = (omega arith, refl)
more_after no_exprs false rest b = after_more 0 1 rest (omega arith) (ends_after rest b)
more_after (exprs e es) c rest b = (omega arith, refl)

-- an item, from its begin to the place after it, in a stack that asks for items
pub read_item : (e : Expr) → At LExpr e → Back e → (k : Ctx) (rest : List Kind) → After 1 rest → run (Want LExpr k) (tokens e rest) ≡ run (Have e k) rest
read_item e a ih k rest b = read_part e ih LExpr (omega arith) a k rest 1 b (stops_expr (precedence e) a) LExpr a (omega arith)

-- what stands up to a token that ends everything
pub read_all : (e : Expr) → Back e → (k : Ctx) (rest : List Kind) → Ends rest → run (Want LExprs k) (tokens e rest) ≡ run (Have e k) rest
read_all e ih k rest b =
    ih LExprs k rest (omega arith) (level_low e) (follows_end (precedence e) rest b)
    ∙ settles LExprs LEnd (precedence e) e k rest (omega arith) (after_binds 0 0 rest (omega arith) (ends_after rest b))

-- ---- tuples

have_tuple : (f e : Expr) (es : Exprs) (k : Ctx) (rest : List Kind) → Ends rest → run (Have e (on (exprs_rest f es) k)) rest ≡ run (Have (tuple (exprs f (snoc es e)) false) k) rest
have_tuple f e es k [] b = refl
have_tuple f e es k (t ∷ ts) b = ap (λ (o : Out). outcome o t ts) (pass_rest f es e k (class t) b.0)

have_comma : (f : Expr) (es : Exprs) (k : Ctx) (rest : List Kind) → Ends rest → run (AfterComma f es k) rest ≡ run (Have (tuple (exprs f es) true) k) rest
have_comma f es k [] b = refl
have_comma f es k (t ∷ ts) b = ap (λ (c : Bool). outcome (cond c (begin LExpr (on (exprs_rest f es) k) (class t)) (give (tuple (exprs f es) true) k (class t))) t ts) b.1

read_more : (es : Exprs) → Each es → AllBack es → (c : Bool) (g f : Expr) (ds : Exprs) (k : Ctx) (rest : List Kind) → Ends rest → run (Have g (on (exprs_rest f ds) k)) (more es c rest) ≡ run (Have (tuple (exprs f (join_exprs (snoc ds g) es)) c) k) rest
read_more no_exprs each ih true g f ds k rest b = have_comma f (snoc ds g) k rest b ∙ ap (λ (x : Exprs). run (Have (tuple (exprs f x) true) k) rest) (sym (join_none (snoc ds g)))
read_more no_exprs each ih false g f ds k rest b = have_tuple f g ds k rest b ∙ ap (λ (x : Exprs). run (Have (tuple (exprs f x) false) k) rest) (sym (join_none (snoc ds g)))
read_more (exprs e es) each ih c g f ds k rest b =
    begin_alike (AfterComma f (snoc ds g) k) (Want LExpr (on (exprs_rest f (snoc ds g)) k)) e (more es c rest) each.1 (after_comma f (snoc ds g) k)
    ∙ read_item e each.0 ih.0 (on (exprs_rest f (snoc ds g)) k) (more es c rest) (more_after es c rest b)
    ∙ read_more es each.2 ih.1 c e f (snoc ds g) k rest b
    ∙ ap (λ (x : Exprs). run (Have (tuple (exprs f x) c) k) rest) (join_snoc (snoc ds g) e es)

-- after the first comma
one_more : (f : Expr) (c : Bool) → c ≡ true → (k : Ctx) (rest : List Kind) → Ends rest → run (AfterComma f no_exprs k) rest ≡ run (Have (tuple (exprs f no_exprs) c) k) rest
one_more f c is k rest b = have_comma f no_exprs k rest b ∙ ap (λ (x : Bool). run (Have (tuple (exprs f no_exprs) x) k) rest) (sym is)

many_more : (f g : Expr) (es : Exprs) (c : Bool) → At LExpr g → Normal g → Each es → Back g → AllBack es → (k : Ctx) (rest : List Kind) → Ends rest → run (AfterComma f no_exprs k) (tokens g (more es c rest)) ≡ run (Have (tuple (exprs f (exprs g es)) c) k) rest
unfolding join_exprs
many_more f g es c ag ng each ihg ihs k rest b =
    begin_alike (AfterComma f no_exprs k) (Want LExpr (on (exprs_rest f no_exprs) k)) g (more es c rest) ng (after_comma f no_exprs k)
    ∙ read_item g ag ihg (on (exprs_rest f no_exprs) k) (more es c rest) (more_after es c rest b)
    ∙ read_more es each ihs c g f no_exprs k rest b

exprs_first_open : (lev : Precedence) (k : Ctx) → 1 ≤ rank lev → rank lev ≤ 1 → upto_exprs lev k ≡ on exprs_first k
exprs_first_open LExprs k low h = refl
exprs_first_open lev k low h = absurd (omega arith)

past_first : (e : Expr) (k : Ctx) (rest : List Kind) → Ends rest → run (Have e k) rest ≡ run (Have e (on exprs_first k)) rest
past_first e k [] b = refl
past_first e k (t ∷ ts) b = ap (λ (o : Out). outcome o t ts) (sym (pass_exprs e k (class t) b.0))

-- the first item of several, and the comma
first_item : (e : Expr) → At LExpr e → Back e → (lev : Precedence) (k : Ctx) (ts : List Kind) → 1 ≤ rank lev → rank lev ≤ 1 → run (Want lev k) (tokens e (Sign mark.Comma ∷ ts)) ≡ run (AfterComma e no_exprs k) ts
first_item e a ih lev k ts low h =
    ih lev k (Sign mark.Comma ∷ ts) low (omega arith) (follows (precedence e) 1 (Sign mark.Comma ∷ ts) a (stops_expr (precedence e) a) (omega arith, refl))
    ∙ settles lev LExprs (precedence e) e k (Sign mark.Comma ∷ ts) (omega arith) (omega arith)
    ∙ ap (λ (c : Ctx). run (Have e c) (Sign mark.Comma ∷ ts)) (exprs_first_open lev k low h)

-- a tuple that is read, in the stack of its precedence
close_tuple : (e : Expr) (lev : Precedence) (k : Ctx) (rest : List Kind) → 1 ≤ rank lev → rank lev ≤ 1 → Ends rest → run (Have e k) rest ≡ run (Have e (upto_exprs lev k)) rest
close_tuple e lev k rest low h b = past_first e k rest b ∙ ap (λ (c : Ctx). run (Have e c) rest) (sym (exprs_first_open lev k low h))

pub back_one : (e : Expr) (c : Bool) → c ≡ true → At LExpr e → Back e → Back (tuple (exprs e no_exprs) c)
back_one e c is a ih lev k rest low h b =
    ap (λ (x : Bool). run (Want lev k) (tokens (tuple (exprs e no_exprs) x) rest)) is
    ∙ first_item e a ih lev k rest low h
    ∙ one_more e c is k rest (ends rest b)
    ∙ close_tuple (tuple (exprs e no_exprs) c) lev k rest low h (ends rest b)

pub back_many : (e f : Expr) (es : Exprs) (c : Bool) → At LExpr e → At LExpr f → Normal f → Each es → Back e → Back f → AllBack es → Back (tuple (exprs e (exprs f es)) c)
back_many e f es c ae af nf each ihe ihf ihs lev k rest low h b =
    first_item e ae ihe lev k (tokens f (more es c rest)) low h
    ∙ many_more e f es c af nf each ihf ihs k rest (ends rest b)
    ∙ close_tuple (tuple (exprs e (exprs f es)) c) lev k rest low h (ends rest b)

-- ---- brackets

pub back_paren : (e : Expr) → Normal e → Back e → Back (paren e)
back_paren e n ih lev k rest low h f =
    begin_alike (AfterOpen (upto_term lev k)) (Want LExprs (on in_paren (upto_term lev k))) e (Sign mark.RightParen ∷ rest) n (after_open (upto_term lev k))
    ∙ read_all e ih (on in_paren (upto_term lev k)) (Sign mark.RightParen ∷ rest) (omega arith, refl)

abbrev pub closer : Opener → Kind
closer (a_call f) = Sign mark.RightParen
closer a_list = Sign mark.RightBracket

closer_ends : (o : Opener) (rest : List Kind) → Ends (closer o ∷ rest)
closer_ends (a_call f) rest = (omega arith, refl)
closer_ends a_list rest = (omega arith, refl)

pub items_closed : (o : Opener) (es : Exprs) (k : Ctx) (rest : List Kind) → run (ItemsComma o es k) (closer o ∷ rest) ≡ run (Have (made o es true) (on post_rest k)) rest
items_closed (a_call f) es k rest = refl
items_closed a_list es k rest = refl

pub item_closed : (o : Opener) (es : Exprs) (e : Expr) (k : Ctx) (rest : List Kind) → run (Have e (on (in_items o es) k)) (closer o ∷ rest) ≡ run (Have (made o (snoc es e) false) (on post_rest k)) rest
item_closed (a_call f) es e k rest = refl
item_closed a_list es e k rest = refl

pub none_closed : (o : Opener) (c : Bool) (k : Ctx) (rest : List Kind) → c ≡ false → run (ItemsOpen o k) (closer o ∷ rest) ≡ run (Have (made o no_exprs c) (on post_rest k)) rest
none_closed (a_call f) true k rest is = absurd cc
none_closed (a_call f) false k rest is = refl
none_closed a_list true k rest is = absurd cc
none_closed a_list false k rest is = refl

more_items : (o : Opener) (es : Exprs) → Each es → AllBack es → (c : Bool) (g : Expr) (ds : Exprs) (k : Ctx) (rest : List Kind) → run (Have g (on (in_items o ds) k)) (more es c (closer o ∷ rest)) ≡ run (Have (made o (join_exprs (snoc ds g) es) c) (on post_rest k)) rest
more_items o no_exprs each ih true g ds k rest = items_closed o (snoc ds g) k rest ∙ ap (λ (x : Exprs). run (Have (made o x true) (on post_rest k)) rest) (sym (join_none (snoc ds g)))
more_items o no_exprs each ih false g ds k rest = item_closed o ds g k rest ∙ ap (λ (x : Exprs). run (Have (made o x false) (on post_rest k)) rest) (sym (join_none (snoc ds g)))
more_items o (exprs e es) each ih c g ds k rest =
    begin_alike (ItemsComma o (snoc ds g) k) (Want LExpr (on (in_items o (snoc ds g)) k)) e (more es c (closer o ∷ rest)) each.1 (items_comma o (snoc ds g) k)
    ∙ read_item e each.0 ih.0 (on (in_items o (snoc ds g)) k) (more es c (closer o ∷ rest)) (more_after es c (closer o ∷ rest) (closer_ends o rest))
    ∙ more_items o es each.2 ih.1 c e (snoc ds g) k rest
    ∙ ap (λ (x : Exprs). run (Have (made o x c) (on post_rest k)) rest) (join_snoc (snoc ds g) e es)

pub read_items : (o : Opener) (es : Exprs) (c : Bool) → NormalItems es c → AllBack es → (k : Ctx) (rest : List Kind) → run (ItemsOpen o k) (items es c (closer o ∷ rest)) ≡ run (Have (made o es c) (on post_rest k)) rest
unfolding join_exprs
read_items o no_exprs c n ih k rest = none_closed o c k rest n
read_items o (exprs e es) c n ih k rest =
    begin_alike (ItemsOpen o k) (Want LExpr (on (in_items o no_exprs) k)) e (more es c (closer o ∷ rest)) n.1 (items_open o k)
    ∙ read_item e n.0 ih.0 (on (in_items o no_exprs) k) (more es c (closer o ∷ rest)) (more_after es c (closer o ∷ rest) (closer_ends o rest))
    ∙ more_items o es n.2 ih.1 c e no_exprs k rest

pub back_list : (es : Exprs) (c : Bool) → NormalItems es c → AllBack es → Back (list es c)
back_list es c n ih lev k rest low h f = read_items a_list es c n ih (upto_term lev k) rest

-- what is called, indexed or asked for a name, up to the token after it
is_post : (l : Precedence) → 10 ≤ rank l → l ≡ LPost
is_post LPost h = refl
is_post l h = absurd (omega arith)

read_head : (f : Expr) → At LPost f → Back f → (lev : Precedence) (k : Ctx) (t : Kind) (ts : List Kind) → 1 ≤ rank lev → is_string (class t) ≡ false → run (Want lev k) (tokens f (t ∷ ts)) ≡ run (Have f (on post_rest (upto_term lev k))) (t ∷ ts)
read_head f a ih lev k t ts low q =
    let post : precedence f ≡ LPost = is_post (precedence f) a in
    let any : rank lev ≤ 10 = highest lev in
    let tight : rank (binds (class t)) ≤ 10 = highest (binds (class t)) in
    ih lev k (t ∷ ts) low (omega arith) (follows (precedence f) 10 (t ∷ ts) (omega arith) (ten (precedence f) a) (tight, q))
    ∙ ap (λ (l : Precedence). run (Have f (upto lev l k)) (t ∷ ts)) post
  where
    ten : (l : Precedence) → 10 ≤ rank l → 10 ≤ stops l
    ten LPost h = omega arith
    ten l h = absurd (omega arith)

pub back_call : (f : Expr) (es : Exprs) (c : Bool) → At LPost f → NormalItems es c → Back f → AllBack es → Back (call f es c)
back_call f es c a n ihf ihs lev k rest low h b =
    read_head f a ihf lev k (Sign mark.LeftParen) (items es c (Sign mark.RightParen ∷ rest)) low refl
    ∙ read_items (a_call f) es c n ihs (upto_term lev k) rest

pub back_attr : (f : Expr) (x : Text) → At LPost f → Back f → Back (attr f x)
back_attr f x a ih lev k rest low h b = read_head f a ih lev k (Sign mark.Dot) (Name x ∷ rest) low refl

-- ---- indices and slices

pub back_index : (f e : Expr) → At LPost f → At LExpr e → Normal e → Back f → Back e → Back (index f e)
back_index f e a ae ne ihf ihe lev k rest low h b =
    read_head f a ihf lev k (Sign mark.LeftBracket) (tokens e (Sign mark.RightBracket ∷ rest)) low refl
    ∙ begin_alike (IndexOpen f (upto_term lev k)) (Want LExpr (on (index_first f) (upto_term lev k))) e (Sign mark.RightBracket ∷ rest) ne (index_open f (upto_term lev k))
    ∙ read_item e ae ihe (on (index_first f) (upto_term lev k)) (Sign mark.RightBracket ∷ rest) (omega arith, refl)

-- the first of several indices, and the comma
first_index : (f e : Expr) → At LPost f → At LExpr e → Normal e → Back f → Back e → (lev : Precedence) (k : Ctx) (ts : List Kind) → 1 ≤ rank lev → run (Want lev k) (tokens f (Sign mark.LeftBracket ∷ tokens e (Sign mark.Comma ∷ ts))) ≡ run (AfterComma e no_exprs (on (in_index f) (upto_term lev k))) ts
first_index f e a ae ne ihf ihe lev k ts low =
    read_head f a ihf lev k (Sign mark.LeftBracket) (tokens e (Sign mark.Comma ∷ ts)) low refl
    ∙ begin_alike (IndexOpen f (upto_term lev k)) (Want LExpr (on (index_first f) (upto_term lev k))) e (Sign mark.Comma ∷ ts) ne (index_open f (upto_term lev k))
    ∙ read_item e ae ihe (on (index_first f) (upto_term lev k)) (Sign mark.Comma ∷ ts) (omega arith, refl)

pub back_index_one : (f e : Expr) (c : Bool) → c ≡ true → At LPost f → At LExpr e → Normal e → Back f → Back e → Back (index f (tuple (exprs e no_exprs) c))
back_index_one f e c is a ae ne ihf ihe lev k rest low h b =
    ap (λ (x : Bool). run (Want lev k) (tokens (index f (tuple (exprs e no_exprs) x)) rest)) is
    ∙ first_index f e a ae ne ihf ihe lev k (Sign mark.RightBracket ∷ rest) low
    ∙ one_more e c is (on (in_index f) (upto_term lev k)) (Sign mark.RightBracket ∷ rest) (omega arith, refl)

pub back_index_many : (f e g : Expr) (es : Exprs) (c : Bool) → At LPost f → At LExpr e → Normal e → At LExpr g → Normal g → Each es → Back f → Back e → Back g → AllBack es → Back (index f (tuple (exprs e (exprs g es)) c))
back_index_many f e g es c a ae ne ag ng each ihf ihe ihg ihs lev k rest low h b =
    first_index f e a ae ne ihf ihe lev k (tokens g (more es c (Sign mark.RightBracket ∷ rest))) low
    ∙ many_more e g es c ag ng each ihg ihs (on (in_index f) (upto_term lev k)) (Sign mark.RightBracket ∷ rest) (omega arith, refl)

-- from after the bracket to after the colon
slice_from : (f : Expr) (from : OptExpr) → NormalBound from → BackBound from → (k : Ctx) (ts : List Kind) → run (IndexOpen f k) (bound from (Sign mark.Colon ∷ ts)) ≡ run (SliceColon f from k) ts
slice_from f absent n ih k ts = refl
slice_from f (present e) n ih k ts =
    begin_alike (IndexOpen f k) (Want LExpr (on (index_first f) k)) e (Sign mark.Colon ∷ ts) n.1 (index_open f k)
    ∙ read_item e n.0 ih (on (index_first f) k) (Sign mark.Colon ∷ ts) (omega arith, refl)

slice_end : (f : Expr) (from to : OptExpr) → NormalBound to → BackBound to → (k : Ctx) (ts : List Kind) → run (SliceColon f from k) (bound to (Sign mark.RightBracket ∷ ts)) ≡ run (Have (slice f from to) (on post_rest k)) ts
slice_end f from absent n ih k ts = refl
slice_end f from (present e) n ih k ts =
    begin_alike (SliceColon f from k) (Want LExpr (on (slice_to f from) k)) e (Sign mark.RightBracket ∷ ts) n.1 (slice_colon f from k)
    ∙ read_item e n.0 ih (on (slice_to f from) k) (Sign mark.RightBracket ∷ ts) (omega arith, refl)

pub back_slice : (f : Expr) (from to : OptExpr) → At LPost f → NormalBound from → NormalBound to → Back f → BackBound from → BackBound to → Back (slice f from to)
back_slice f from to a nf nt ihf ihfrom ihto lev k rest low h b =
    read_head f a ihf lev k (Sign mark.LeftBracket) (bound from (Sign mark.Colon ∷ bound to (Sign mark.RightBracket ∷ rest))) low refl
    ∙ slice_from f from nf ihfrom (upto_term lev k) (bound to (Sign mark.RightBracket ∷ rest))
    ∙ slice_end f from to nt ihto (upto_term lev k) rest

-- ---- dict displays

read_key : (k : Expr) → At LExpr k → Back k → (ds : Pairs) (c : Ctx) (ts : List Kind) → run (Want LExpr (on (in_key ds) c)) (tokens k (Sign mark.Colon ∷ ts)) ≡ run (Want LExpr (on (in_value ds k) c)) ts
read_key k a ih ds c ts = read_item k a ih (on (in_key ds) c) (Sign mark.Colon ∷ ts) (omega arith, refl)

entries_after : (ps : Pairs) (c : Bool) (rest : List Kind) → After 1 (more_entries ps c (Sign mark.RightBrace ∷ rest))
entries_after no_pairs true rest = (omega arith, refl)
entries_after no_pairs false rest = (omega arith, refl)
entries_after (pair k v ps) c rest = (omega arith, refl)

more_pairs : (ps : Pairs) → EachEntry ps → AllBackPairs ps → (c : Bool) (key value : Expr) (ds : Pairs) (k : Ctx) (rest : List Kind) → run (Have value (on (in_value ds key) k)) (more_entries ps c (Sign mark.RightBrace ∷ rest)) ≡ run (Have (dict (join_pairs (snoc_pair ds key value) ps) c) (on post_rest k)) rest
more_pairs no_pairs each ih true key value ds k rest = ap (λ (x : Pairs). run (Have (dict x true) (on post_rest k)) rest) (sym (join_pairs_none (snoc_pair ds key value)))
more_pairs no_pairs each ih false key value ds k rest = ap (λ (x : Pairs). run (Have (dict x false) (on post_rest k)) rest) (sym (join_pairs_none (snoc_pair ds key value)))
more_pairs (pair k' v' ps) each ih c key value ds k rest =
    begin_alike (DictComma (snoc_pair ds key value) k) (Want LExpr (on (in_key (snoc_pair ds key value)) k)) k' (Sign mark.Colon ∷ tokens v' (more_entries ps c (Sign mark.RightBrace ∷ rest))) each.1 (dict_comma (snoc_pair ds key value) k)
    ∙ read_key k' each.0 ih.0 (snoc_pair ds key value) k (tokens v' (more_entries ps c (Sign mark.RightBrace ∷ rest)))
    ∙ read_item v' each.2 ih.1 (on (in_value (snoc_pair ds key value) k') k) (more_entries ps c (Sign mark.RightBrace ∷ rest)) (entries_after ps c rest)
    ∙ more_pairs ps each.4 ih.2 c k' v' (snoc_pair ds key value) k rest
    ∙ ap (λ (x : Pairs). run (Have (dict x c) (on post_rest k)) rest) (join_pairs_snoc (snoc_pair ds key value) k' v' ps)

pub back_dict : (ps : Pairs) (c : Bool) → NormalEntries ps c → AllBackPairs ps → Back (dict ps c)
unfolding join_pairs
back_dict no_pairs c n ih lev k rest low h f = ap (λ (x : Bool). run (Have (dict no_pairs x) (on post_rest (upto_term lev k))) rest) (sym n)
back_dict (pair key value ps) c n ih lev k rest low h f =
    let K = upto_term lev k in
    begin_alike (DictOpen K) (Want LExpr (on (in_key no_pairs) K)) key (Sign mark.Colon ∷ tokens value (more_entries ps c (Sign mark.RightBrace ∷ rest))) n.1 (dict_open K)
    ∙ read_key key n.0 ih.0 no_pairs K (tokens value (more_entries ps c (Sign mark.RightBrace ∷ rest)))
    ∙ read_item value n.2 ih.1 (on (in_value no_pairs key) K) (more_entries ps c (Sign mark.RightBrace ∷ rest)) (entries_after ps c rest)
    ∙ more_pairs ps n.4 ih.2 c key value no_pairs K rest
