-- The tokens of a normal tree lead the machine to that tree.
use Rattle.std.proofs.Common.{◌≡◌, Bool, true, false, cond, List, [], ◌∷◌, Option, Some, option_map, refl, sym, ap, ◌∙◌, arith}
use Rattle.py_operator.specs.declared.operator.BinOp.TheVariants as op_
use Rattle.py_syntax.specs.Tree.{Text, Expr, name, int, str, fstr, none, bool, tuple, list, dict, paren, not', and, or, unary, binary, compare, call, index, slice, attr, Exprs, no_exprs, exprs, Pairs, no_pairs, pair, Links, no_links, link, OptExpr, absent, present, Fragments, no_fragments, plain, format, Parts, no_parts, text, field}
use Rattle.py_syntax.specs.Tree as tree_
use Rattle.py_syntax.specs.Kinds.{Kind, Str, FString, End, kinds_of}
use Rattle.py_syntax.specs.Tokens.{strings, tokens, fragments, pieces}
use Rattle.py_syntax.specs.Normal.{Precedence, LExpr, LPost, At, HasFormat, IsSomething, Normal, NormalLinks, Each, EachEntry, NormalBound, NormalFragments, NormalParts}
use Rattle.py_grammar.specs.TokenClasses.{TokenClass, t_string, t_format, t_bad_format}
use Rattle.py_grammar.specs.Machine.{snoc_plain, snoc_format, has_format, texts, strings_of, any, Ctx, Outside, Want, Have, Strings, Out, upto, begin, give, step, start, format_class, class, parts, field_expr, run}
use Rattle.py_grammar.proofs.Sound.Valid.{SomeStrings}
use Rattle.py_grammar.proofs.Sound.Spelled.{outcome, with_field}
use Rattle.py_grammar.proofs.Complete.Passes.{After, after, is_string}
use Rattle.py_grammar.proofs.Complete.Opens.{tokens_append, field_of_run}
use Rattle.py_grammar.proofs.Complete.Operators.{Back, AllBackLinks, back_not, back_unary, back_or, back_and, back_binary, back_compare, back_cond}
use Rattle.py_grammar.proofs.Complete.Enclosed.{AllBack, AllBackPairs, BackBound, read_all, back_one, back_many, back_paren, back_list, back_call, back_attr, back_index, back_index_one, back_index_many, back_slice, back_dict}
pub mod Passes
pub mod Opens
pub mod Operators
pub mod SpelledFields
pub mod Enclosed
pub mod Targets

-- ---- strings

join_fragments : Fragments → Fragments → Fragments
join_fragments no_fragments fs = fs
join_fragments (plain x ds) fs = plain x (join_fragments ds fs)
join_fragments (format ps ds) fs = format ps (join_fragments ds fs)

join_plain : (ds : Fragments) (x : Text) (fs : Fragments) → join_fragments (snoc_plain ds x) fs ≡ join_fragments ds (plain x fs)
unfolding join_fragments
join_plain no_fragments x fs = refl
join_plain (plain y ds) x fs = ap (λ (z : Fragments). plain y z) (join_plain ds x fs)
join_plain (format ps ds) x fs = ap (λ (z : Fragments). format ps z) (join_plain ds x fs)

join_format : (ds : Fragments) (qs : Parts) (fs : Fragments) → join_fragments (snoc_format ds qs) fs ≡ join_fragments ds (format qs fs)
unfolding join_fragments
join_format no_fragments qs fs = refl
join_format (plain y ds) qs fs = ap (λ (z : Fragments). plain y z) (join_format ds qs fs)
join_format (format ps ds) qs fs = ap (λ (z : Fragments). format ps z) (join_format ds qs fs)

join_no_more : (ds : Fragments) → join_fragments ds no_fragments ≡ ds
unfolding join_fragments
join_no_more no_fragments = refl
join_no_more (plain y ds) = ap (λ (z : Fragments). plain y z) (join_no_more ds)
join_no_more (format ps ds) = ap (λ (z : Fragments). format ps z) (join_no_more ds)

-- the machine reads the fields of each f-string
abbrev AllFormats : Fragments → Type 0
AllFormats no_fragments = Unit {0}
AllFormats (plain x fs) = AllFormats fs
AllFormats (format ps fs) = (parts (pieces ps) ≡ Some ps) × AllFormats fs

pub give_strings : (fs : Fragments) (k : Ctx) (t : TokenClass) → is_string t ≡ false → step (Strings fs k) t ≡ give (strings_of fs) k t
give_strings fs k (t_string x) q = absurd cc
give_strings fs k (t_format ps) q = absurd cc
give_strings fs k (t_bad_format ps) q = absurd cc
give_strings fs k t q = refl

have_strings : (fs : Fragments) (k : Ctx) (rest : List Kind) → After 10 rest → run (Strings fs k) rest ≡ run (Have (strings_of fs) k) rest
have_strings fs k [] b = refl
have_strings fs k (t ∷ ts) b = ap (λ (o : Out). outcome o t ts) (give_strings fs k (class t) b.1)

read_fragments : (gs : Fragments) → AllFormats gs → (fs : Fragments) (k : Ctx) (rest : List Kind) → run (Strings fs k) (fragments gs rest) ≡ run (Strings (join_fragments fs gs) k) rest
read_fragments no_fragments all fs k rest = ap (λ (x : Fragments). run (Strings x k) rest) (sym (join_no_more fs))
read_fragments (plain x gs) all fs k rest = read_fragments gs all (snoc_plain fs x) k rest ∙ ap (λ (x : Fragments). run (Strings x k) rest) (join_plain fs x gs)
read_fragments (format ps gs) all fs k rest =
    ap (λ (o : Option Parts). outcome (step (Strings fs k) (format_class (pieces ps) o)) (FString (pieces ps)) (fragments gs rest)) all.0
    ∙ read_fragments gs all.1 (snoc_format fs ps) k rest
    ∙ ap (λ (x : Fragments). run (Strings x k) rest) (join_format fs ps gs)

read_strings : (fs : Fragments) → SomeStrings fs → AllFormats fs → (lev : Precedence) (k : Ctx) (rest : List Kind) → After 10 rest → run (Want lev k) (fragments fs rest) ≡ run (Have (strings_of fs) (upto lev LPost k)) rest
unfolding join_fragments
read_strings no_fragments some all lev k rest b = absurd some
read_strings (plain x fs) some all lev k rest b = read_fragments fs all (plain x no_fragments) (upto lev LPost k) rest ∙ have_strings (plain x fs) (upto lev LPost k) rest b
read_strings (format ps fs) some all lev k rest b =
    ap (λ (o : Option Parts). outcome (begin lev k (format_class (pieces ps) o)) (FString (pieces ps)) (fragments fs rest)) all.0
    ∙ read_fragments fs all.1 (format ps no_fragments) (upto lev LPost k) rest
    ∙ have_strings (format ps fs) (upto lev LPost k) rest b

plains : List Text → Fragments
plains [] = no_fragments
plains (x ∷ xs) = plain x (plains xs)

plains_spelled : (xs : List Text) (r : List Kind) → strings xs r ≡ fragments (plains xs) r
unfolding plains
plains_spelled [] r = refl
plains_spelled (x ∷ xs) r = ap (λ (z : List Kind). Str x ∷ z) (plains_spelled xs r)

plains_plain : (xs : List Text) → (has_format (plains xs) ≡ false) × (texts (plains xs) ≡ xs) × AllFormats (plains xs)
unfolding plains
plains_plain [] = (refl, refl, tt)
plains_plain (x ∷ xs) = let rest = plains_plain xs in (rest.0, ap (λ (z : List Text). x ∷ z) rest.1, rest.2)

some_plains : (xs : List Text) → IsSomething xs → SomeStrings (plains xs)
unfolding plains
some_plains [] h = absurd h
some_plains (x ∷ xs) h = tt

back_str : (xs : List Text) → IsSomething xs → Back (str xs)
back_str xs some lev k rest low h f =
    let all = plains_plain xs in
    let is : strings_of (plains xs) ≡ str xs = ap (λ (b : Bool). cond b (fstr (plains xs)) (str (texts (plains xs)))) all.0 ∙ ap (λ (z : List Text). str z) all.1 in
    ap (run (Want lev k)) (plains_spelled xs rest)
    ∙ read_strings (plains xs) (some_plains xs some) all.2 lev k rest (after LPost 10 rest (omega arith) (omega arith) f)
    ∙ ap (λ (e : Expr). run (Have e (upto lev LPost k)) rest) is

format_some : (fs : Fragments) → HasFormat fs → SomeStrings fs × (has_format fs ≡ true)
format_some no_fragments h = absurd h
format_some (plain x no_fragments) h = absurd h
format_some (plain x (plain y fs)) h = let rest = format_some (plain y fs) h in (tt, rest.1)
format_some (plain x (format ps fs)) h = (tt, refl)
format_some (format ps fs) h = (tt, refl)

back_fstr : (fs : Fragments) → HasFormat fs → AllFormats fs → Back (fstr fs)
back_fstr fs some all lev k rest low h f =
    let is = format_some fs some in
    read_strings fs is.0 all lev k rest (after LPost 10 rest (omega arith) (omega arith) f)
    ∙ ap (λ (b : Bool). run (Have (cond b (fstr fs) (str (texts fs))) (upto lev LPost k)) rest) is.1

-- a field is what its tokens spell
field_back : (e : Expr) → Back e → field_expr (start any) (kinds_of (tokens e [])) ≡ Some e
field_back e ih = field_of_run (start any) (tokens e []) e (ap (run (start any)) (sym (tokens_append e [] (End ∷ []))) ∙ read_all e ih (Outside any) (End ∷ []) (omega arith, refl))

-- ---- all forms

abbrev is_many : Expr → Bool
is_many (tuple (exprs e es) c) = true
is_many e = false

tight : (e : Expr) → is_many e ≡ false → At LExpr e
tight (tuple no_exprs c) h = omega arith
tight (tuple (exprs e es) c) h = absurd cc
tight (binary op_.Add a b) h = omega arith
tight (binary op_.Sub a b) h = omega arith
tight (binary op_.Mul a b) h = omega arith
tight (binary op_.Floor a b) h = omega arith
tight (binary op_.Mod a b) h = omega arith
tight e h = omega arith

back_bool : (b : Bool) → Back (bool b)
back_bool true lev k rest low h f = refl
back_bool false lev k rest low h f = refl

mutual
  pub back : (e : Expr) → Normal e → Back e
  back (name x) h = λ lev k rest low le f. refl
  back (int n) h = λ lev k rest low le f. refl
  back (str ps) h = back_str ps h
  back (fstr fs) h = back_fstr fs h.0 (back_fragments fs h.1)
  back none h = λ lev k rest low le f. refl
  back (bool b) h = back_bool b
  back (tuple no_exprs c) h = λ lev k rest low le f. ap (λ (x : Bool). run (Have (tuple no_exprs x) (upto lev LPost k)) rest) (sym h)
  back (tuple (exprs e no_exprs) c) h = back_one e c h.2 h.0 (back e h.1)
  back (tuple (exprs e (exprs f es)) c) h = back_many e f es c h.0 h.2 h.3 h.4 (back e h.1) (back f h.3) (back_each es h.4)
  back (list no_exprs c) h = back_list no_exprs c h tt
  back (list (exprs e es) c) h = back_list (exprs e es) c h (back e h.1, back_each es h.2)
  back (dict no_pairs c) h = back_dict no_pairs c h tt
  back (dict (pair k v ps) c) h = back_dict (pair k v ps) c h (back k h.1, back v h.3, back_pairs ps h.4)
  back (paren e) h = back_paren e h (back e h)
  back (not' e) h = back_not e h.0 (back e h.1)
  back (and a b) h = back_and a b h.0 h.2 (back a h.1) (back b h.3)
  back (or a b) h = back_or a b h.0 h.2 (back a h.1) (back b h.3)
  back (unary s e) h = back_unary s e h.0 (back e h.1)
  back (binary op a b) h = back_binary op a b h.0 h.2 (back a h.1) (back b h.3)
  back (compare a no_links) h = absurd h
  back (compare a (link op e ls)) h = back_compare a op e ls h.0 (h.2, h.3, h.4) (back a h.1) (back e h.3, back_links ls h.4)
  back (tree_.cond b t o) h = back_cond b t o h.0 h.2 h.4 (back b h.1) (back t h.3) (back o h.5)
  back (call f no_exprs c) h = back_call f no_exprs c h.0 h.2 (back f h.1) tt
  back (call f (exprs e es) c) h = back_call f (exprs e es) c h.0 h.2 (back f h.1) (back e h.2.1, back_each es h.2.2)
  back (index f (tuple (exprs e no_exprs) c)) h = back_index_one f e c h.2.2 h.0 h.2.0 h.2.1 (back f h.1) (back e h.2.1)
  back (index f (tuple (exprs e (exprs g es)) c)) h = back_index_many f e g es c h.0 h.2.0 h.2.1 h.2.2 h.2.3 h.2.4 (back f h.1) (back e h.2.1) (back g h.2.3) (back_each es h.2.4)
  back (index f e) h = back_index f e h.0 (tight e refl) h.2 (back f h.1) (back e h.2)
  back (slice f from to) h = back_slice f from to h.0 h.2 h.3 (back f h.1) (back_bound from h.2) (back_bound to h.3)
  back (attr f x) h = back_attr f x h.0 (back f h.1)

  back_each : (es : Exprs) → Each es → AllBack es
  back_each no_exprs h = tt
  back_each (exprs e es) h = (back e h.1, back_each es h.2)

  back_pairs : (ps : Pairs) → EachEntry ps → AllBackPairs ps
  back_pairs no_pairs h = tt
  back_pairs (pair k v ps) h = (back k h.1, back v h.3, back_pairs ps h.4)

  back_links : (ls : Links) → NormalLinks ls → AllBackLinks ls
  back_links no_links h = tt
  back_links (link op e ls) h = (back e h.1, back_links ls h.2)

  back_bound : (b : OptExpr) → NormalBound b → BackBound b
  back_bound absent h = tt
  back_bound (present e) h = back e h.1

  back_fragments : (fs : Fragments) → NormalFragments fs → AllFormats fs
  back_fragments no_fragments h = tt
  back_fragments (plain x fs) h = back_fragments fs h
  back_fragments (format ps fs) h = (back_parts ps h.0, back_fragments fs h.1)

  pub back_parts : (ps : Parts) → NormalParts ps → parts (pieces ps) ≡ Some ps
  back_parts no_parts h = refl
  back_parts (text x ps) h = ap (λ (o : Option Parts). option_map (λ qs. text x qs) o) (back_parts ps h)
  back_parts (field e ps) h = ap (λ (o : Option Expr). with_field o (parts (pieces ps))) (field_back e (back e h.0)) ∙ ap (λ (o : Option Parts). with_field (Some e) o) (back_parts ps h.1)
