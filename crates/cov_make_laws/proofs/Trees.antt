-- The tokens of a source spell its tree, which is within the limits and well formed.
use Rattle.std.proofs.Common.{◌≡◌, ℕ, zero, suc, ◌≤◌, max, true, false, Bool, List, [], ◌∷◌, ◌++◌, refl, arith, rules, ap}
use Rattle.std.specs.Prelude.{codes, pos}
use Rattle.cov_make.specs.Source.{number_after, drawn}
use Rattle.py_token.specs.declared.token.Keyword.TheVariants as word
use Rattle.py_token.specs.declared.token.Mark.{Mark}
use Rattle.py_token.specs.declared.token.Mark.TheVariants as sign
use Rattle.py_token.specs.Plain as kind
use Rattle.py_token.specs.Plain.{PToken, token}
use Rattle.py_syntax.specs.Kinds.{Kind, Name, Word, Int, Sign, Newline, Indent, Dedent, End, bare}
use Rattle.py_syntax.specs.Headers.{Marked, put, kinds_marked, marked_from}
use Rattle.py_syntax.specs.Statements.{stmts_tokens, kind_tokens, EndLines, NormalStmts, NormalKind, EndsLine, is_simple, stmts_height, stmts_nesting, kind_height, kind_nesting}
use Rattle.py_syntax.specs.Spelling.{KeepsLines, Spells, IsWithin}
use Rattle.py_scope.specs.Faults.{findings, kind_findings, late_globals, IsWellFormed, module_place}
use Rattle.py_scope.specs.Occurrences.{occurrences}
use Rattle.py_syntax.specs.Tree.{Text, Stmts, stmt, no_stmts}
use Rattle.cov_make_laws.specs.Trees.{Form, If, For, Try, While, t_name, i_name, range_name, zero_division, form_drawn, number_drawn, line_after, simple_end, compound_end, number, set_t, statement, statements, made_tree}
use Rattle.cov_make_laws.specs.Tokens.{block_tokens, tail_tokens, source_tokens}

-- ---- a block

-- the kinds of `t = t op k` alone in its suite, and then others
abbrev update_kinds : Mark → Kind → List Kind → List Kind
update_kinds op k rest =
    Indent ∷ Name t_name ∷ Sign sign.Equal ∷ Name t_name ∷ Sign op ∷ k ∷ Newline ∷ Dedent ∷ rest

-- the kinds of a block's tokens, and then others
abbrev block_kinds : Form → ℕ → List Kind → List Kind
block_kinds If v rest =
    Word word.If ∷ Name t_name ∷ Sign sign.Percent ∷ Int (pos 3) ∷ Sign sign.EqualEqual
    ∷ Int (pos v) ∷ Sign sign.Colon ∷ Newline ∷ update_kinds sign.Plus (Int (pos 1))
    (Word word.Else ∷ Sign sign.Colon ∷ Newline ∷ update_kinds sign.Plus (Int (pos 2)) rest)
block_kinds For v rest =
    Word word.For ∷ Name i_name ∷ Word word.In ∷ Name range_name ∷ Sign sign.LeftParen
    ∷ Int (pos v) ∷ Sign sign.RightParen ∷ Sign sign.Colon ∷ Newline
    ∷ update_kinds sign.Plus (Name i_name) rest
block_kinds Try v rest =
    Word word.Try ∷ Sign sign.Colon ∷ Newline ∷ update_kinds sign.DoubleSlash (Int (pos v))
    (Word word.Except ∷ Name zero_division ∷ Sign sign.Colon ∷ Newline
    ∷ update_kinds sign.Plus (Int (pos 5)) rest)
block_kinds While v rest =
    Word word.While ∷ Name t_name ∷ Sign sign.Greater ∷ Int (pos v) ∷ Sign sign.Star
    ∷ Int (pos 10) ∷ Sign sign.Colon ∷ Newline ∷ update_kinds sign.Minus (Int (pos 7)) rest

-- a block's tokens with the `Dedent` of its last suite
abbrev whole_block : Form → ℕ → ℕ → List PToken → List PToken
whole_block f v l ts =
    block_tokens f v l (token kind.dedent (line_after f l) (line_after f l) ∷ ts)

-- a block's statement, and then others
abbrev block_stmts : Form → ℕ → ℕ → Stmts → Stmts
block_stmts f v l ss = stmt l (line_after f l) (statement f v l) compound_end ss

bare_block : (f : Form) (v l : ℕ) (ts : List PToken) (ms : List Marked)
    → bare ts ≡ kinds_marked ms
    → bare (whole_block f v l ts) ≡ kinds_marked (kind_tokens (statement f v l) ms)
bare_block If v l ts ms h = ap (block_kinds If v) h
bare_block For v l ts ms h = ap (block_kinds For v) h
bare_block Try v l ts ms h = ap (block_kinds Try v) h
bare_block While v l ts ms h = ap (block_kinds While v) h

marked_block : (f : Form) (v l : ℕ) (ms : List Marked)
    → marked_from true (kinds_marked ms) ≡ ms
    → marked_from true (kinds_marked (kind_tokens (statement f v l) ms))
    ≡ kind_tokens (statement f v l) ms
marked_block If v l ms h = ap (kind_tokens (statement If v l)) h
marked_block For v l ms h = ap (kind_tokens (statement For v l)) h
marked_block Try v l ms h = ap (kind_tokens (statement Try v l)) h
marked_block While v l ms h = ap (kind_tokens (statement While v l)) h

normal_block : (f : Form) (v l : ℕ) → NormalKind (statement f v l)
normal_block If v l = search rules
normal_block For v l = search rules
normal_block Try v l = search rules
normal_block While v l = search rules

keeps_block : (f : Form) (v l : ℕ) (ss : Stmts) (ts : List PToken)
    → KeepsLines ss ts → KeepsLines (block_stmts f v l ss) (whole_block f v l ts)
keeps_block If v l ss ts h = search (rules, h)
keeps_block For v l ss ts h = search (rules, h)
keeps_block Try v l ss ts h = search (rules, h)
keeps_block While v l ss ts h = search (rules, h)

compound_block : (f : Form) (v l : ℕ) → is_simple (statement f v l) ≡ false
compound_block If v l = refl
compound_block For v l = refl
compound_block Try v l = refl
compound_block While v l = refl

low_block : (f : Form) (v l : ℕ)
    → (kind_height (statement f v l) ≤ 5) × (kind_nesting (statement f v l) ≤ 1)
low_block If v l = search rules
low_block For v l = search rules
low_block Try v l = search rules
low_block While v l = search rules

-- no name is declared global, and nothing stands where it may not
faultless_block : (f : Form) (v l : ℕ)
    → (kind_findings module_place l (statement f v l)).faults ≡ []
faultless_block If v l = refl
faultless_block For v l = refl
faultless_block Try v l = refl
faultless_block While v l = refl

early_block : (f : Form) (v l : ℕ) (ss : Stmts)
    → ((used : List Text) → late_globals used (occurrences ss) ≡ [])
    → (used : List Text) → late_globals used (occurrences (block_stmts f v l ss)) ≡ []
early_block If v l ss h used = h _
early_block For v l ss h used = h _
early_block Try v l ss h used = h _
early_block While v l ss h used = h _

-- ---- all blocks, and the last line

none_of : {A : Type 0} {xs ys : List A} → xs ≡ [] → ys ≡ [] → xs ++ ys ≡ []
none_of h k = rw (h, k) refl

abbrev first_statement : Stmts
first_statement = stmt 1 1 (set_t (number 0)) simple_end no_stmts

abbrev end_marked : List Marked
end_marked = put (End ∷ []) []

tail_bare : (last s l n : ℕ)
    → bare (tail_tokens last s l n)
    ≡ kinds_marked (stmts_tokens (statements s l n) end_marked)
unfolding tail_tokens statements
tail_bare last s l zero = refl
tail_bare last s l (suc n) =
    let q = drawn (number_after s) in
    bare_block (form_drawn q) (number_drawn q) l _ _
    (tail_bare last (number_after s) (line_after (form_drawn q) l) n)

tail_marked : (s l n : ℕ)
    → marked_from true (kinds_marked (stmts_tokens (statements s l n) end_marked))
    ≡ stmts_tokens (statements s l n) end_marked
unfolding statements
tail_marked s l zero = refl
tail_marked s l (suc n) =
    let q = drawn (number_after s) in
    marked_block (form_drawn q) (number_drawn q) l _
    (tail_marked (number_after s) (line_after (form_drawn q) l) n)

ends_compound : (b : Bool) (ss : Stmts) → b ≡ false → EndsLine b compound_end ss
ends_compound false ss h = (refl, refl)
ends_compound true ss h = absurd (search (rules, h))

tail_ends : (s l n : ℕ) → EndLines (statements s l n)
unfolding statements
tail_ends s l zero = search rules
tail_ends s l (suc n) =
    let q = drawn (number_after s) in (
      ends_compound _ _ (compound_block (form_drawn q) (number_drawn q) l),
      tail_ends (number_after s) (line_after (form_drawn q) l) n,
    )

tail_normal : (s l n : ℕ) → NormalStmts (statements s l n)
unfolding statements
tail_normal s l zero = search rules
tail_normal s l (suc n) =
    let q = drawn (number_after s) in (
      normal_block (form_drawn q) (number_drawn q) l,
      tail_normal (number_after s) (line_after (form_drawn q) l) n,
    )

tail_keeps : (last s l n : ℕ) → KeepsLines (statements s l n) (tail_tokens last s l n)
unfolding tail_tokens statements
tail_keeps last s l zero = search rules
tail_keeps last s l (suc n) =
    let q = drawn (number_after s) in
    keeps_block (form_drawn q) (number_drawn q) l _ _
    (tail_keeps last (number_after s) (line_after (form_drawn q) l) n)

both : (a b c d : ℕ) → (a ≤ 5) × (b ≤ 1) → (c ≤ 5) × (d ≤ 1) → (max a c ≤ 5) × (max b d ≤ 1)
both a b c d h k = (omega (arith, h.0, k.0), omega (arith, h.1, k.1))

tail_low : (s l n : ℕ)
    → (stmts_height (statements s l n) ≤ 5) × (stmts_nesting (statements s l n) ≤ 1)
unfolding statements
tail_low s l zero = search rules
tail_low s l (suc n) =
    let q = drawn (number_after s) in
    both _ _ _ _ (low_block (form_drawn q) (number_drawn q) l)
    (tail_low (number_after s) (line_after (form_drawn q) l) n)

-- the tree is normal, and the tokens are its own, with its lines
pub tree_spelled : (last seed size : ℕ)
    → Spells (made_tree seed size) (source_tokens last seed size)
tree_spelled last seed size = (
  (
    search (rules, tail_ends seed 2 size),
    search (rules, tail_normal seed 2 size),
    ap (λ ms. stmts_tokens first_statement ms) (tail_marked seed 2 size),
  ),
  ap (λ ks. Name t_name ∷ Sign sign.Equal ∷ Int (pos 0) ∷ Newline ∷ ks)
      (tail_bare last seed 2 size),
  search (rules, tail_keeps last seed 2 size),
)

pub tree_within : (seed size : ℕ) → IsWithin (made_tree seed size)
tree_within seed size =
    let h = tail_low seed 2 size in
    (omega (arith, h.0), omega (arith, h.1))

-- ---- scopes

tail_faultless : (s l n : ℕ) → (findings module_place (statements s l n)).faults ≡ []
unfolding statements
tail_faultless s l zero = refl
tail_faultless s l (suc n) =
    let q = drawn (number_after s) in
    none_of (faultless_block (form_drawn q) (number_drawn q) l)
    (tail_faultless (number_after s) (line_after (form_drawn q) l) n)

tail_early : (s l n : ℕ) (used : List Text)
    → late_globals used (occurrences (statements s l n)) ≡ []
unfolding statements
tail_early s l zero used = refl
tail_early s l (suc n) used =
    let q = drawn (number_after s) in
    let rest = statements (number_after s) (line_after (form_drawn q) l) n in
    early_block (form_drawn q) (number_drawn q) l rest
    (tail_early (number_after s) (line_after (form_drawn q) l) n) used

pub tree_well_formed : (seed size : ℕ) → IsWellFormed (made_tree seed size)
tree_well_formed seed size = none_of (tail_early seed 2 size _) (tail_faultless seed 2 size)
