-- The header of a function: the machine reads its parameters with their defaults.
use Rattle.std.proofs.Common.{◌≡◌, ℕ, zero, suc, ◌+◌, ◌-◌, Bool, true, false, List, [], ◌∷◌, ◌++◌, length, Option, Some, refl, sym, ap, ◌∙◌, arith, append_assoc}
use Rattle.std.proofs.lemmas.List.{append-nil}
use Rattle.py_token.specs.declared.token.Keyword.TheVariants as word
use Rattle.py_token.specs.declared.token.Mark.TheVariants as mark
use Rattle.py_syntax.specs.Tree.{Text, Expr, Exprs, no_exprs, exprs}
use Rattle.py_syntax.specs.Kinds.{Kind, Name, Sign}
use Rattle.py_syntax.specs.Tokens.{tokens, comma_if}
use Rattle.py_syntax.specs.Normal.{Each}
use Rattle.py_syntax.specs.Headers.{Marked, put}
use Rattle.py_syntax.specs.Statements.{more_params, params_from, count, param_tokens, NormalExpr, NormalParams}
use Rattle.py_grammar.specs.Machine.{one, snoc}
use Rattle.py_grammar.proofs.Complete.Enclosed.{join_exprs, join_snoc, join_none, join_one}
use Rattle.py_statements.specs.Open.{SuiteOf, a_def, SuiteStack}
use Rattle.py_statements.specs.Machine.{default, wanted, FunctionWanted, ParamWanted, ParamRead, Span, State, at, onward, after_default, act}
use Rattle.py_statements.specs.Listed.{is_some}
use Rattle.py_parse.specs.Places.{Source, kinds_past, def_head, run}
use Rattle.py_parse.proofs.Complete.OnLines.{lines, after, past, past_parted, Spelt, one_spelt, on_line}
use Rattle.py_parse.proofs.Complete.Suites.{Ready}
use Rattle.py_parse.proofs.Complete.Heads.{headed, compound_begins}

-- after a parameter: a comma, or the bracket after the last
abbrev separator : Bool → Kind
separator true = Sign mark.Comma
separator false = Sign mark.RightParen

abbrev closing : List Kind
closing = Sign mark.RightParen ∷ Sign mark.Colon ∷ []

-- What stands after some parameters is read as the rest of this header.
record MoreRead (ks : List Kind) (x : Text) (qs : List Text) (es : Exprs) (o : SuiteOf) : Type 0 where
  comma : Bool
  others : List Kind
  is : ks ≡ separator comma ∷ others
  reads : (src : Source) (c f : ℕ) (b : SuiteStack) (rest : List Marked) (p : ℕ) → after src (after_default x qs es (lines src c f p) b (separator comma) (src.last p)) (put others rest) (suc p) ≡ headed src o c f b rest (kinds_past others (suc p))

read_as : (ks : List Kind) (x : Text) (qs : List Text) (es : Exprs) (o o' : SuiteOf) → o ≡ o' → MoreRead ks x qs es o → MoreRead ks x qs es o'
read_as ks x qs es o o' same m = record { comma = m.comma; others = m.others; is = m.is; reads = λ src c f b rest p. m.reads src c f b rest p ∙ ap (λ (y : SuiteOf). headed src y c f b rest (kinds_past m.others (suc p))) same }

-- ---- one parameter

param_after : (x : Text) (qs : List Text) (y : Text) (comma : Bool) (n : Span) (b : SuiteStack) (f l : ℕ) → act (ParamRead x qs no_exprs y) n b (separator comma) f l ≡ after_default x (qs ++ y ∷ []) no_exprs n b (separator comma) l
param_after x qs y true n b f l = refl
param_after x qs y false n b f l = refl

-- with no default, and what stands after it
plain_param : (ks : List Kind) (x : Text) (qs : List Text) (y : Text) (o : SuiteOf) → MoreRead ks x (qs ++ y ∷ []) no_exprs o → (src : Source) (c f : ℕ) (b : SuiteStack) (rest : List Marked) (p : ℕ) →
    run src (at (ParamWanted x qs no_exprs) (lines src c f p) b) (put (Name y ∷ ks) rest) p ≡ headed src o c f b rest (kinds_past (Name y ∷ ks) p)
plain_param ks x qs y o m src c f b rest p =
    let s = at (ParamRead x qs no_exprs y) (lines src c f (suc p)) b in
    ap (λ (ts : List Kind). run src s (put ts rest) (suc p)) m.is
    ∙ ap (λ (w : Option State). after src w (put m.others rest) (suc (suc p))) (param_after x qs y m.comma (lines src c f (suc p)) b (src.first (suc p)) (src.last (suc p)))
    ∙ m.reads src c f b rest (suc p)
    ∙ ap (λ (ts : List Kind). headed src o c f b rest (kinds_past ts (suc p))) (sym m.is)

equal_taken : (x : Text) (qs : List Text) (es : Exprs) (y : Text) (n : Span) (b : SuiteStack) (f l : ℕ) → act (ParamRead x qs es y) n b (Sign mark.Equal) f l ≡ Some (at (wanted (default x qs es y)) (onward n l) b)
equal_taken x qs no_exprs y n b f l = refl
equal_taken x qs (exprs e es) y n b f l = refl

default_spelt : (d : Expr) (comma : Bool) → NormalExpr d → Spelt one d (separator comma)
default_spelt d true n = one_spelt d (separator true) n (omega arith, refl)
default_spelt d false n = one_spelt d (separator false) n (omega arith, refl)

-- with a default, and what stands after it
default_param : (ks : List Kind) (x : Text) (qs : List Text) (es : Exprs) (y : Text) (d : Expr) (o : SuiteOf) → NormalExpr d → MoreRead ks x (qs ++ y ∷ []) (snoc es d) o → (src : Source) (c f : ℕ) (b : SuiteStack) (rest : List Marked) (p : ℕ) →
    run src (at (ParamWanted x qs es) (lines src c f p) b) (put (Name y ∷ Sign mark.Equal ∷ tokens d ks) rest) p ≡ headed src o c f b rest (kinds_past (Name y ∷ Sign mark.Equal ∷ tokens d ks) p)
default_param ks x qs es y d o n m src c f b rest p =
    let q = suc (suc p) in
    let s = at (wanted (default x qs es y)) (lines src c f q) b in
    ap (λ (w : Option State). after src w (put (tokens d ks) rest) q) (equal_taken x qs es y (lines src c f (suc p)) b (src.first (suc p)) (src.last (suc p)))
    ∙ ap (λ (ts : List Kind). run src s (put (tokens d ts) rest) q) m.is
    ∙ on_line one d (separator m.comma) (default_spelt d m.comma n) src (default x qs es y) c f b m.others rest q
    ∙ m.reads src c f b rest (past d q)
    ∙ ap (λ (ts : List Kind). headed src o c f b rest (kinds_past ts (past d q))) (sym m.is)
    ∙ ap (headed src o c f b rest) (sym (past_parted d ks q))

-- ---- the parameters after some

some_snoc : (qs : List Text) (y : Text) → is_some (qs ++ y ∷ []) ≡ true
some_snoc [] y = refl
some_snoc (q ∷ qs) y = refl

none_join : (ds : Exprs) → join_exprs no_exprs ds ≡ ds
none_join no_exprs = join_none no_exprs
none_join (exprs d ds) = sym (join_snoc no_exprs d ds) ∙ join_one d ds

-- none
last_read : (c : Bool) (x : Text) (qs : List Text) (es : Exprs) → is_some qs ≡ true → MoreRead (comma_if c closing) x qs es (a_def x qs es c)
last_read true x qs es h = record { comma = true; others = closing; is = refl; reads = λ src c f b rest p. ap (λ (z : Bool). headed src (a_def x qs es z) c f b rest (suc (suc (suc p)))) h }
last_read false x qs es h = record { comma = false; others = Sign mark.Colon ∷ []; is = refl; reads = λ src c f b rest p. refl }

none_left : (x : Text) (qs : List Text) (es : Exprs) (c : Bool) → a_def x qs es c ≡ a_def x (qs ++ []) (join_exprs es no_exprs) c
none_left x qs es c = ap (λ (z : List Text). a_def x z es c) (sym (append-nil qs)) ∙ ap (λ (z : Exprs). a_def x (qs ++ []) z c) (sym (join_none es))

-- each with a default
defaults_read : (xs : List Text) (ds : Exprs) → count ds ≡ length xs → Each ds → (c : Bool) (x : Text) (qs : List Text) (es : Exprs) → is_some qs ≡ true → MoreRead (more_params zero xs ds c closing) x qs es (a_def x (qs ++ xs) (join_exprs es ds) c)
defaults_read [] no_exprs same each true x qs es h = read_as _ x qs es (a_def x qs es true) _ (none_left x qs es true) (last_read true x qs es h)
defaults_read [] no_exprs same each false x qs es h = read_as _ x qs es (a_def x qs es false) _ (none_left x qs es false) (last_read false x qs es h)
defaults_read [] (exprs d ds) same each c x qs es h = absurd cc
defaults_read (y ∷ xs) no_exprs same each c x qs es h = absurd cc
defaults_read (y ∷ xs) (exprs d ds) same each c x qs es h =
    let ks = more_params zero xs ds c closing in
    let m = defaults_read xs ds (omega arith) each.2 c x (qs ++ y ∷ []) (snoc es d) (some_snoc qs y) in
    let o = a_def x ((qs ++ y ∷ []) ++ xs) (join_exprs (snoc es d) ds) c in
    read_as _ x qs es o _
    (ap (λ (z : List Text). a_def x z (join_exprs (snoc es d) ds) c) (append_assoc qs (y ∷ []) xs) ∙ ap (λ (z : Exprs). a_def x (qs ++ y ∷ xs) z c) (join_snoc es d ds))
    (record { comma = true; others = Name y ∷ Sign mark.Equal ∷ tokens d ks; is = refl; reads = λ src g f b rest p. default_param ks x qs es y d o (each.0, each.1) m src g f b rest (suc p) })

-- Some have none, and those after them have one.
params_read : (xs : List Text) (n : ℕ) (ds : Exprs) → n + count ds ≡ length xs → Each ds → (c : Bool) (x : Text) (qs : List Text) → is_some qs ≡ true → MoreRead (more_params n xs ds c closing) x qs no_exprs (a_def x (qs ++ xs) ds c)
params_read xs zero ds same each c x qs h = read_as _ x qs no_exprs _ _ (ap (λ (z : Exprs). a_def x (qs ++ xs) z c) (none_join ds)) (defaults_read xs ds (omega arith) each c x qs no_exprs h)
params_read [] (suc n) ds same each c x qs h = absurd (omega arith)
params_read (y ∷ xs) (suc n) ds same each c x qs h =
    let ks = more_params n xs ds c closing in
    let m = params_read xs n ds (omega arith) each c x (qs ++ y ∷ []) (some_snoc qs y) in
    let o = a_def x ((qs ++ y ∷ []) ++ xs) ds c in
    read_as _ x qs no_exprs o _
    (ap (λ (z : List Text). a_def x z ds c) (append_assoc qs (y ∷ []) xs))
    (record { comma = true; others = Name y ∷ ks; is = refl; reads = λ src g f b rest p. plain_param ks x qs y o m src g f b rest (suc p) })

-- ---- the whole header

-- at least one parameter
first_read : (n : ℕ) (y : Text) (ys : List Text) (ds : Exprs) → n + count ds ≡ suc (length ys) → Each ds → (comma : Bool) (x : Text) (src : Source) (c f : ℕ) (b : SuiteStack) (rest : List Marked) (p : ℕ) →
    run src (at (ParamWanted x [] no_exprs) (lines src c f p) b) (put (params_from n (y ∷ ys) ds comma closing) rest) p ≡ headed src (a_def x (y ∷ ys) ds comma) c f b rest (kinds_past (params_from n (y ∷ ys) ds comma closing) p)
first_read (suc n) y ys ds same each comma x src c f b rest p =
    plain_param (more_params n ys ds comma closing) x [] y (a_def x (y ∷ ys) ds comma) (params_read ys n ds (omega arith) each comma x (y ∷ []) refl) src c f b rest p
first_read zero y ys no_exprs same each comma x src c f b rest p = absurd cc
first_read zero y ys (exprs d ds) same each comma x src c f b rest p =
    default_param (more_params zero ys ds comma closing) x [] no_exprs y d (a_def x (y ∷ ys) (exprs d ds) comma) (each.0, each.1)
    (read_as _ x (y ∷ []) (exprs d no_exprs) _ _ (ap (λ (z : Exprs). a_def x (y ∷ ys) z comma) (join_one d ds)) (defaults_read ys ds (omega arith) each.2 comma x (y ∷ []) (exprs d no_exprs) refl))
    src c f b rest p

inside_read : (ps : List Text) (ds : Exprs) (comma : Bool) → NormalParams ps ds comma → (x : Text) (src : Source) (c f : ℕ) (b : SuiteStack) (rest : List Marked) (p : ℕ) →
    run src (at (ParamWanted x [] no_exprs) (lines src c f p) b) (put (param_tokens ps ds comma closing) rest) p ≡ headed src (a_def x ps ds comma) c f b rest (kinds_past (param_tokens ps ds comma closing) p)
inside_read [] ds comma n x src c f b rest p =
    ap (λ (z : Exprs). headed src (a_def x [] z false) c f b rest (suc (suc p))) (sym n.0)
    ∙ ap (λ (z : Bool). headed src (a_def x [] ds z) c f b rest (suc (suc p))) (sym n.1)
inside_read (y ∷ ys) ds comma n x src c f b rest p = let low = n.0 in first_read (length (y ∷ ys) - count ds) y ys ds (omega arith) n.1 comma x src c f b rest p

pub def_reads : (x : Text) (ps : List Text) (ds : Exprs) (comma : Bool) → NormalParams ps ds comma → (src : Source) (s : State) (b : SuiteStack) → Ready s b → (rest : List Marked) (p : ℕ) → run src s (put (def_head x ps ds comma) rest) p ≡ headed src (a_def x ps ds comma) (src.first p) (src.first p) b rest (kinds_past (def_head x ps ds comma) p)
def_reads x ps ds comma n src s b ready rest p =
    let F = src.first p in
    compound_begins word.Def FunctionWanted refl refl src s b ready (put (Name x ∷ Sign mark.LeftParen ∷ param_tokens ps ds comma closing) rest) p
    ∙ inside_read ps ds comma n x src F F b rest (suc (suc (suc p)))
