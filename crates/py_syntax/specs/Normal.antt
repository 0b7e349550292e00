-- Normal expressions and patterns: the trees that the grammar spells, each in one way. And their
-- heights.
--     Precedence, rank                              precedences and their order
--     op_precedence, right_precedence, precedence   those of operators and of expressions
--     At, IsConstant, Compared, HasFormat           what may stand in a place
--     Normal                                        an expression that the grammar spells;
--                                                   NormalItems and the like for what stands in it
--     is_target, is_place                           the forms that can be assigned to
--     height                                        how high an expression is
--     pattern_rank, NormalConstant, NormalPattern   the same for patterns
--     pattern_height                                how high a pattern is
use Rattle.std.specs.Prelude.{◌≡◌, ◌≢◌, ℕ, suc, ◌≤◌, max, Bool, true, false, ◌&&◌, List, [], ◌∷◌}
use Rattle.py_operator.specs.declared.operator.BinOp.{BinOp}
use Rattle.py_operator.specs.declared.operator.BinOp.TheVariants as op_
use Rattle.py_syntax.specs.declared.expr.Comparison.{Comparison}
use Rattle.py_syntax.specs.declared.expr.Comparison.TheVariants.{Op, Is, IsNot}
use Rattle.py_syntax.specs.declared.pattern.Brackets.TheVariants.{Round, Square, Bare}
use Rattle.py_syntax.specs.Tree.{Text, Expr, name, int, str, fstr, none, bool, tuple, list, dict, paren, not', and, or, unary, binary, compare, cond, call, index, slice, attr, Exprs, no_exprs, exprs, Pairs, no_pairs, pair, Links, no_links, link, OptExpr, absent, present, Fragments, no_fragments, plain, format, Parts, no_parts, text, field}
use Rattle.py_syntax.specs.Tree.{Constant, c_int, c_str, c_none, c_bool, Pattern, literal, capture, wild, member, sequence, p_or, p_as, p_paren, Patterns, no_patterns, patterns}
use Rattle.py_syntax.specs.Tokens.{underscore}

-- The precedences of the grammar, from the loosest. LEnd is that of a token that goes on with no
-- expression.
pub data Precedence : Type 0 where
  LEnd : Precedence
  LExprs : Precedence
  LExpr : Precedence
  LOr : Precedence
  LAnd : Precedence
  LNot : Precedence
  LCmp : Precedence
  LSum : Precedence
  LTerm : Precedence
  LUnary : Precedence
  LPost : Precedence

-- the precedences in their order, the loosest first
abbrev pub rank : Precedence → ℕ
rank LEnd = 0
rank LExprs = 1
rank LExpr = 2
rank LOr = 3
rank LAnd = 4
rank LNot = 5
rank LCmp = 6
rank LSum = 7
rank LTerm = 8
rank LUnary = 9
rank LPost = 10

-- the precedence of an operator, which its left operand has at least
abbrev pub op_precedence : BinOp → Precedence
op_precedence op_.Add = LSum
op_precedence op_.Sub = LSum
op_precedence op_.Mul = LTerm
op_precedence op_.Floor = LTerm
op_precedence op_.Mod = LTerm

-- the precedence that its right operand has at least
abbrev pub right_precedence : BinOp → Precedence
right_precedence op_.Add = LTerm
right_precedence op_.Sub = LTerm
right_precedence op_.Mul = LUnary
right_precedence op_.Floor = LUnary
right_precedence op_.Mod = LUnary

-- the precedence of an expression; `()` is an atom
abbrev pub precedence : Expr → Precedence
precedence (name x) = LPost
precedence (int n) = LPost
precedence (str ps) = LPost
precedence (fstr fs) = LPost
precedence none = LPost
precedence (bool b) = LPost
precedence (tuple no_exprs c) = LPost
precedence (tuple (exprs e es) c) = LExprs
precedence (list es c) = LPost
precedence (dict ps c) = LPost
precedence (paren e) = LPost
precedence (not' e) = LNot
precedence (and a b) = LAnd
precedence (or a b) = LOr
precedence (unary s e) = LUnary
precedence (binary op a b) = op_precedence op
precedence (compare a ls) = LCmp
precedence (cond b t o) = LExpr
precedence (call f es c) = LPost
precedence (index f e) = LPost
precedence (slice f from to) = LPost
precedence (attr f x) = LPost

-- an expression stands in a place of the grammar that takes this precedence and tighter ones
abbrev pub At : Precedence → Expr → Type 0
At l e = rank l ≤ rank (precedence e)

-- what may stand after `is`
abbrev pub IsConstant : Expr → Type 0
IsConstant (name x) = ⊥
IsConstant (int n) = ⊥
IsConstant (str ps) = ⊥
IsConstant (fstr fs) = ⊥
IsConstant none = Unit {0}
IsConstant (bool b) = Unit {0}
IsConstant (tuple es c) = ⊥
IsConstant (list es c) = ⊥
IsConstant (dict ps c) = ⊥
IsConstant (paren e) = ⊥
IsConstant (not' e) = ⊥
IsConstant (and a b) = ⊥
IsConstant (or a b) = ⊥
IsConstant (unary s e) = ⊥
IsConstant (binary op a b) = ⊥
IsConstant (compare a ls) = ⊥
IsConstant (cond b t o) = ⊥
IsConstant (call f es c) = ⊥
IsConstant (index f e) = ⊥
IsConstant (slice f from to) = ⊥
IsConstant (attr f x) = ⊥

-- the right operand of a comparison
abbrev pub Compared : Comparison → Expr → Type 0
Compared (Op op) e = At LSum e
Compared Is e = IsConstant e
Compared IsNot e = IsConstant e

-- a run of strings with at least one f-string
abbrev pub HasFormat : Fragments → Type 0
HasFormat no_fragments = ⊥
HasFormat (plain x fs) = HasFormat fs
HasFormat (format ps fs) = Unit {0}

-- a list that isn't empty
abbrev pub IsSomething : List Text → Type 0
IsSomething [] = ⊥
IsSomething (x ∷ xs) = Unit {0}

abbrev mutual
  -- an expression
  pub Normal : Expr → Type 0
  Normal (name x) = Unit {0}
  Normal (int n) = Unit {0}
  Normal (str ps) = IsSomething ps
  Normal (fstr fs) = HasFormat fs × NormalFragments fs
  Normal none = Unit {0}
  Normal (bool b) = Unit {0}
  Normal (tuple no_exprs c) = c ≡ false
  Normal (tuple (exprs e no_exprs) c) = At LExpr e × Normal e × (c ≡ true)
  Normal (tuple (exprs e (exprs f es)) c) = At LExpr e × Normal e × At LExpr f × Normal f × Each es
  Normal (list es c) = NormalItems es c
  Normal (dict ps c) = NormalEntries ps c
  Normal (paren e) = Normal e
  Normal (not' e) = At LNot e × Normal e
  Normal (and a b) = At LAnd a × Normal a × At LNot b × Normal b
  Normal (or a b) = At LOr a × Normal a × At LAnd b × Normal b
  Normal (unary s e) = At LUnary e × Normal e
  Normal (binary op a b) =
      At (op_precedence op) a × Normal a × At (right_precedence op) b × Normal b
  Normal (compare a no_links) = ⊥
  Normal (compare a (link op e ls)) =
      At LSum a × Normal a × Compared op e × Normal e × NormalLinks ls
  Normal (cond b t o) = At LOr b × Normal b × At LOr t × Normal t × At LExpr o × Normal o
  Normal (call f es c) = At LPost f × Normal f × NormalItems es c
  Normal (index f e) = At LPost f × Normal f × Normal e
  Normal (slice f from to) = At LPost f × Normal f × NormalBound from × NormalBound to
  Normal (attr f x) = At LPost f × Normal f

  -- the comparisons after the first
  pub NormalLinks : Links → Type 0
  NormalLinks no_links = Unit {0}
  NormalLinks (link op e ls) = Compared op e × Normal e × NormalLinks ls

  -- items in brackets: no comma without an item
  pub NormalItems : Exprs → Bool → Type 0
  NormalItems no_exprs c = c ≡ false
  NormalItems (exprs e es) c = At LExpr e × Normal e × Each es

  -- items, each a tight one
  pub Each : Exprs → Type 0
  Each no_exprs = Unit {0}
  Each (exprs e es) = At LExpr e × Normal e × Each es

  -- entries of a dict display: no comma without an entry
  pub NormalEntries : Pairs → Bool → Type 0
  NormalEntries no_pairs c = c ≡ false
  NormalEntries (pair k v ps) c = At LExpr k × Normal k × At LExpr v × Normal v × EachEntry ps

  -- keys and values, each a tight one
  pub EachEntry : Pairs → Type 0
  EachEntry no_pairs = Unit {0}
  EachEntry (pair k v ps) = At LExpr k × Normal k × At LExpr v × Normal v × EachEntry ps

  -- a bound of a slice
  pub NormalBound : OptExpr → Type 0
  NormalBound absent = Unit {0}
  NormalBound (present e) = At LExpr e × Normal e

  -- neighbouring strings
  pub NormalFragments : Fragments → Type 0
  NormalFragments no_fragments = Unit {0}
  NormalFragments (plain x fs) = NormalFragments fs
  NormalFragments (format ps fs) = NormalParts ps × NormalFragments fs

  -- each field is any `exprs`
  pub NormalParts : Parts → Type 0
  NormalParts no_parts = Unit {0}
  NormalParts (text x ps) = NormalParts ps
  NormalParts (field e ps) = Normal e × NormalParts ps

abbrev mutual
  -- whether an expression has the form of a target
  pub is_target : Expr → Bool
  is_target (name x) = true
  is_target (int n) = false
  is_target (str ps) = false
  is_target (fstr fs) = false
  is_target none = false
  is_target (bool b) = false
  is_target (tuple es c) = are_targets es
  is_target (list es c) = are_targets es
  is_target (dict ps c) = false
  is_target (paren e) = is_target e
  is_target (not' e) = false
  is_target (and a b) = false
  is_target (or a b) = false
  is_target (unary s e) = false
  is_target (binary op a b) = false
  is_target (compare a ls) = false
  is_target (cond b t o) = false
  is_target (call f es c) = false
  is_target (index f e) = true
  is_target (slice f from to) = false
  is_target (attr f x) = false

  -- whether each of several has
  pub are_targets : Exprs → Bool
  are_targets no_exprs = true
  are_targets (exprs e es) = is_target e && are_targets es

-- whether it has the form of the place of an augmented assignment
abbrev pub is_place : Expr → Bool
is_place (name x) = true
is_place (int n) = false
is_place (str ps) = false
is_place (fstr fs) = false
is_place none = false
is_place (bool b) = false
is_place (tuple es c) = false
is_place (list es c) = false
is_place (dict ps c) = false
is_place (paren e) = false
is_place (not' e) = false
is_place (and a b) = false
is_place (or a b) = false
is_place (unary s e) = false
is_place (binary op a b) = false
is_place (compare a ls) = false
is_place (cond b t o) = false
is_place (call f es c) = false
is_place (index f e) = true
is_place (slice f from to) = false
is_place (attr f x) = false

-- How many nodes the longest branch has.
abbrev mutual
  -- of an expression
  pub height : Expr → ℕ
  height (name x) = 1
  height (int n) = 1
  height (str ps) = 1
  height (fstr fs) = suc (height_fragments fs)
  height none = 1
  height (bool b) = 1
  height (tuple es c) = suc (heights es)
  height (list es c) = suc (heights es)
  height (dict ps c) = suc (height_entries ps)
  height (paren e) = suc (height e)
  height (not' e) = suc (height e)
  height (and a b) = suc (max (height a) (height b))
  height (or a b) = suc (max (height a) (height b))
  height (unary s e) = suc (height e)
  height (binary op a b) = suc (max (height a) (height b))
  height (compare a ls) = suc (max (height a) (height_links ls))
  height (cond b t o) = suc (max (height b) (max (height t) (height o)))
  height (call f es c) = suc (max (height f) (heights es))
  height (index f e) = suc (max (height f) (height e))
  height (slice f from to) = suc (max (height f) (max (height_bound from) (height_bound to)))
  height (attr f x) = suc (height f)

  -- the height of the highest of several expressions
  pub heights : Exprs → ℕ
  heights no_exprs = 0
  heights (exprs e es) = max (height e) (heights es)

  -- of the highest key or value
  pub height_entries : Pairs → ℕ
  height_entries no_pairs = 0
  height_entries (pair k v ps) = max (max (height k) (height v)) (height_entries ps)

  -- of the highest right operand of a chain of comparisons
  pub height_links : Links → ℕ
  height_links no_links = 0
  height_links (link op e ls) = max (height e) (height_links ls)

  -- of a bound of a slice, where there is one
  pub height_bound : OptExpr → ℕ
  height_bound absent = 0
  height_bound (present e) = height e

  -- of the highest field of neighbouring strings
  pub height_fragments : Fragments → ℕ
  height_fragments no_fragments = 0
  height_fragments (plain x fs) = height_fragments fs
  height_fragments (format ps fs) = max (height_parts ps) (height_fragments fs)

  -- of the highest field of an f-string
  pub height_parts : Parts → ℕ
  height_parts no_parts = 0
  height_parts (text x ps) = height_parts ps
  height_parts (field e ps) = max (height e) (height_parts ps)

-- The precedence of a pattern: of a list with commas, of one pattern with its `as`, of
-- alternatives, of a closed pattern.
abbrev pub pattern_rank : Pattern → ℕ
pattern_rank (literal minus c) = 3
pattern_rank (capture x) = 3
pattern_rank wild = 3
pattern_rank (member m x) = 3
pattern_rank (sequence Round ps c) = 3
pattern_rank (sequence Square ps c) = 3
pattern_rank (sequence Bare ps c) = 0
pattern_rank (p_or ps) = 2
pattern_rank (p_as p x) = 1
pattern_rank (p_paren p) = 3

-- a literal; a minus stands before a number alone
abbrev pub NormalConstant : Bool → Constant → Type 0
NormalConstant minus (c_int n) = Unit {0}
NormalConstant minus (c_str ps) = IsSomething ps × (minus ≡ false)
NormalConstant minus c_none = minus ≡ false
NormalConstant minus (c_bool b) = minus ≡ false

abbrev mutual
  -- a pattern
  pub NormalPattern : Pattern → Type 0
  NormalPattern (literal minus c) = NormalConstant minus c
  NormalPattern (capture x) = x ≢ underscore
  NormalPattern wild = Unit {0}
  NormalPattern (member m x) = Unit {0}
  NormalPattern (sequence Round no_patterns c) = c ≡ false
  NormalPattern (sequence Round (patterns p no_patterns) c) =
      (1 ≤ pattern_rank p) × NormalPattern p × (c ≡ true)
  NormalPattern (sequence Round (patterns p (patterns q ps)) c) =
      (1 ≤ pattern_rank p) × NormalPattern p × EachPattern 1 (patterns q ps)
  NormalPattern (sequence Square no_patterns c) = c ≡ false
  NormalPattern (sequence Square (patterns p ps) c) = EachPattern 1 (patterns p ps)
  NormalPattern (sequence Bare no_patterns c) = ⊥
  NormalPattern (sequence Bare (patterns p no_patterns) c) =
      (1 ≤ pattern_rank p) × NormalPattern p × (c ≡ true)
  NormalPattern (sequence Bare (patterns p (patterns q ps)) c) =
      (1 ≤ pattern_rank p) × NormalPattern p × EachPattern 1 (patterns q ps)
  NormalPattern (p_or no_patterns) = ⊥
  NormalPattern (p_or (patterns p no_patterns)) = ⊥
  NormalPattern (p_or (patterns p (patterns q ps))) = EachPattern 3 (patterns p (patterns q ps))
  NormalPattern (p_as p x) = (2 ≤ pattern_rank p) × NormalPattern p × (x ≢ underscore)
  NormalPattern (p_paren p) = (1 ≤ pattern_rank p) × NormalPattern p

  -- patterns, each of this precedence or a tighter one
  pub EachPattern : ℕ → Patterns → Type 0
  EachPattern l no_patterns = Unit {0}
  EachPattern l (patterns p ps) = (l ≤ pattern_rank p) × NormalPattern p × EachPattern l ps

abbrev mutual
  -- how many nodes the longest branch of a pattern has
  pub pattern_height : Pattern → ℕ
  pattern_height (literal minus c) = 1
  pattern_height (capture x) = 1
  pattern_height wild = 1
  pattern_height (member m x) = 1
  pattern_height (sequence b ps c) = suc (pattern_heights ps)
  pattern_height (p_or ps) = suc (pattern_heights ps)
  pattern_height (p_as p x) = suc (pattern_height p)
  pattern_height (p_paren p) = suc (pattern_height p)

  -- the height of the highest of several patterns
  pub pattern_heights : Patterns → ℕ
  pattern_heights no_patterns = 0
  pattern_heights (patterns p ps) = max (pattern_height p) (pattern_heights ps)
