-- Each two readings of one source are the same: a check that one of them passes isn't the one that
-- the other fails.
use Rattle.std.proofs.Common.{◌≡◌, ◌≢◌, ⊎_elim, ℕ, ◌<◌, ◌≤◌, List, refl, sym, ap, ◌∙◌, subst, arith}
use Rattle.std.specs.Str.{IsUtf8, chars}
use Rattle.std.proofs.lemmas.Bool.{cases_lt}
use Rattle.py_token.specs.declared.error.TokenError.{TokenError}
use Rattle.py_token.specs.declared.error.TokenError.TheVariants as token_error
use Rattle.py_token.specs.Plain.{PToken}
use Rattle.py_token.specs.Source.{line_count, most_lines}
use Rattle.py_token.specs.Spelling.{StuckAt}
use Rattle.py_syntax.specs.Tree.{Stmts}
use Rattle.py_syntax.specs.Spelling.{Spells}
use Rattle.py_parse.specs.declared.error.SyntaxError.{SyntaxError}
use Rattle.py_parse.specs.declared.error.SyntaxError.TheVariants as syntax_error
use Rattle.py_parse.specs.Refusal.{IsRefused}
use Rattle.py_scope.specs.declared.error.ScopeError.{ScopeError}
use Rattle.py_scope.specs.declared.error.ScopeError.TheVariants as scope_error
use Rattle.py_scope.specs.Answer.{IsFirst}
use Rattle.py_scope.specs.Faults.{IsWellFormed, faults_of}
use Rattle.cov_run.specs.Reading.{Reading, no_text, long, stuck, no_tree, ill_formed, tree, unread, Reads, AreShortText, HasTokens, HasTree}
use Rattle.cov_load_laws.specs.Texts.{OneText}
use Rattle.cov_load_laws.proofs.Parsing.{not-refused, one-refusal}
use Rattle.cov_load_laws.proofs.Faults.{one-first, none-first}

-- ---- what a reading says

is-stuck :
    (bytes : List ℕ) (e : TokenError) → Reads bytes (stuck e)
    → AreShortText bytes × StuckAt (chars bytes) e
is-stuck bytes (token_error.BadCharacter l) h = h
is-stuck bytes (token_error.BadIndent l) h = h
is-stuck bytes (token_error.OpenString l) h = h
is-stuck bytes (token_error.OpenBracket l) h = h
is-stuck bytes (token_error.WideNumber l) h = h
is-stuck bytes token_error.NoMemory h = absurd h

no-tree :
    (bytes : List ℕ) (e : SyntaxError) → Reads bytes (no_tree e)
    → (tokens : List PToken) × HasTokens bytes tokens × IsRefused tokens e
    × (e ≢ syntax_error.NoMemory)
no-tree bytes (syntax_error.Unexpected l) h = (h.0, h.1, h.2, λ q. cc)
no-tree bytes (syntax_error.TooDeep k l) h = (h.0, h.1, h.2, λ q. cc)
no-tree bytes syntax_error.NoMemory h = absurd h

is-ill :
    (bytes : List ℕ) (e : ScopeError) → Reads bytes (ill_formed e)
    → (m : Stmts) × HasTree bytes m × IsFirst (faults_of m) e
is-ill bytes (scope_error.BreakOutside l) h = h
is-ill bytes (scope_error.ReturnOutside l) h = h
is-ill bytes (scope_error.GlobalAfterUse l) h = h
is-ill bytes (scope_error.NestedFunction l) h = h
is-ill bytes (scope_error.EarlyIrrefutable l) h = h
is-ill bytes (scope_error.TwiceNamed l) h = h
is-ill bytes scope_error.NoMemory h = absurd h

-- ---- which check fails

-- the check that fails, by its number
abbrev place : Reading → ℕ
place (no_text line) = 0
place (long lines) = 1
place (stuck e) = 2
place (no_tree e) = 3
place (ill_formed e) = 4
place (tree m) = 5
place unread = 6

-- what passes the check of the text
is-text : (bytes : List ℕ) (s : Reading) → s ≢ unread → 0 < place s → Reads bytes s → IsUtf8 bytes
is-text bytes (no_text b) n l h = absurd (omega (arith, l))
is-text bytes (long b) n l h = h.0
is-text bytes (stuck f) n l h = (is-stuck bytes f h).0.utf8
is-text bytes (no_tree f) n l h = (no-tree bytes f h).1.short.utf8
is-text bytes (ill_formed f) n l h = (is-ill bytes f h).1.read.short.utf8
is-text bytes (tree m) n l h = h.0.read.short.utf8
is-text bytes unread n l h = absurd (n refl)

-- what passes that of its lines
is-short :
    (bytes : List ℕ) (s : Reading) → s ≢ unread → 1 < place s → Reads bytes s
    → line_count (chars bytes) ≤ most_lines
is-short bytes (no_text b) n l h = absurd (omega (arith, l))
is-short bytes (long b) n l h = absurd (omega (arith, l))
is-short bytes (stuck f) n l h = (is-stuck bytes f h).0.few
is-short bytes (no_tree f) n l h = (no-tree bytes f h).1.short.few
is-short bytes (ill_formed f) n l h = (is-ill bytes f h).1.read.short.few
is-short bytes (tree m) n l h = h.0.read.short.few
is-short bytes unread n l h = absurd (n refl)

-- what passes that of its tokens
has-tokens :
    (bytes : List ℕ) (s : Reading) → s ≢ unread → 2 < place s → Reads bytes s
    → (ts : List PToken) × HasTokens bytes ts
has-tokens bytes (no_text b) n l h = absurd (omega (arith, l))
has-tokens bytes (long b) n l h = absurd (omega (arith, l))
has-tokens bytes (stuck f) n l h = absurd (omega (arith, l))
has-tokens bytes (no_tree f) n l h = let r = no-tree bytes f h in (r.0, r.1)
has-tokens bytes (ill_formed f) n l h = let r = is-ill bytes f h in (r.1.tokens, r.1.read)
has-tokens bytes (tree m) n l h = (h.0.tokens, h.0.read)
has-tokens bytes unread n l h = absurd (n refl)

-- what passes that of its tree
has-tree :
    (bytes : List ℕ) (s : Reading) → s ≢ unread → 3 < place s → Reads bytes s
    → (m : Stmts) × HasTree bytes m
has-tree bytes (no_text b) n l h = absurd (omega (arith, l))
has-tree bytes (long b) n l h = absurd (omega (arith, l))
has-tree bytes (stuck f) n l h = absurd (omega (arith, l))
has-tree bytes (no_tree f) n l h = absurd (omega (arith, l))
has-tree bytes (ill_formed f) n l h = let r = is-ill bytes f h in (r.0, r.1)
has-tree bytes (tree m) n l h = (m, h.0)
has-tree bytes unread n l h = absurd (n refl)

-- what passes that of its scopes
is-well :
    (bytes : List ℕ) (s : Reading) → s ≢ unread → 4 < place s → Reads bytes s
    → (m : Stmts) × HasTree bytes m × IsWellFormed m
is-well bytes (no_text b) n l h = absurd (omega (arith, l))
is-well bytes (long b) n l h = absurd (omega (arith, l))
is-well bytes (stuck f) n l h = absurd (omega (arith, l))
is-well bytes (no_tree f) n l h = absurd (omega (arith, l))
is-well bytes (ill_formed f) n l h = absurd (omega (arith, l))
is-well bytes (tree m) n l h = (m, h.0, h.1)
is-well bytes unread n l h = absurd (n refl)

module _ (one : OneText) where
  -- ---- one text, one list of tokens, one tree

  same-tokens :
      (bytes : List ℕ) (a b : List PToken) → HasTokens bytes a → HasTokens bytes b → a ≡ b
  same-tokens bytes a b h k = one.spelling (chars bytes) a b h.spelled k.spelled

  pub same-tree : (bytes : List ℕ) (m n : Stmts) → HasTree bytes m → HasTree bytes n → m ≡ n
  same-tree bytes m n h k =
      let same = same-tokens bytes h.tokens k.tokens h.read k.read in
      one.tree m n k.tokens (subst (Spells m) same h.spelled) k.spelled

  -- tokens of a text aren't both those of a tree and refused
  no-refused-tree :
      (bytes : List ℕ) (e : SyntaxError) (m : Stmts) → Reads bytes (no_tree e)
      → HasTree bytes m → ⊥
  no-refused-tree bytes e m h k =
      let r = no-tree bytes e h in
      let same = same-tokens bytes r.0 k.tokens r.1 k.read in
      r.3 (not-refused m k.tokens e k.spelled k.low k.few (subst (λ ts. IsRefused ts e) same r.2))

  same-refusal :
      (bytes : List ℕ) (e f : SyntaxError) → Reads bytes (no_tree e) → Reads bytes (no_tree f)
      → e ≡ f
  same-refusal bytes e f h k =
      let r = no-tree bytes e h in
      let s = no-tree bytes f k in
      let same = same-tokens bytes r.0 s.0 r.1 s.1 in
      one-refusal s.0 e f r.3 s.3 (subst (λ ts. IsRefused ts e) same r.2) s.2

  same-fault :
      (bytes : List ℕ) (e f : ScopeError) → Reads bytes (ill_formed e)
      → Reads bytes (ill_formed f) → e ≡ f
  same-fault bytes e f h k =
      let r = is-ill bytes e h in
      let s = is-ill bytes f k in
      let same = same-tree bytes r.0 s.0 r.1 s.1 in
      one-first (faults_of s.0) e f (subst (λ m. IsFirst (faults_of m) e) same r.2) s.2

  no-ill-tree :
      (bytes : List ℕ) (e : ScopeError) (m : Stmts) → Reads bytes (ill_formed e)
      → HasTree bytes m → IsWellFormed m → ⊥
  no-ill-tree bytes e m h k w =
      let r = is-ill bytes e h in
      none-first m e w (subst (λ n. IsFirst (faults_of n) e) (same-tree bytes r.0 m r.1 k) r.2)

  -- ---- one check that fails

  -- no reading fails a check that another one passes
  not-later :
      (bytes : List ℕ) (r s : Reading) → r ≢ unread → s ≢ unread → Reads bytes r
      → Reads bytes s → place r < place s → ⊥
  not-later bytes (no_text a) s nr ns h k l = h.0 (is-text bytes s ns l k)
  not-later bytes (long a) s nr ns h k l =
      let few = is-short bytes s ns l k in
      let is = h.1 in
      let many = h.2 in
      omega (arith, few, is, many)
  not-later bytes (stuck e) s nr ns h k l =
      let t = has-tokens bytes s ns l k in
      one.never_both (chars bytes) t.0 e t.1.spelled (is-stuck bytes e h).1
  not-later bytes (no_tree e) s nr ns h k l =
      let t = has-tree bytes s ns l k in no-refused-tree bytes e t.0 h t.1
  not-later bytes (ill_formed e) s nr ns h k l =
      let t = is-well bytes s ns l k in no-ill-tree bytes e t.0 h t.1 t.2
  not-later bytes (tree m) unread nr ns h k l = ns refl
  not-later bytes (tree m) s nr ns h k l = omega (arith, l)
  not-later bytes unread s nr ns h k l = nr refl

  same-check :
      (bytes : List ℕ) (r s : Reading) → place r ≡ place s → Reads bytes r → Reads bytes s → r ≡ s
  same-check bytes (no_text a) (no_text b) e h k = ap (λ l. no_text l) (h.1 ∙ sym k.1)
  same-check bytes (no_text a) s e h k = absurd (omega (arith, e))
  same-check bytes (long a) (long b) e h k = ap (λ l. long l) (h.1 ∙ sym k.1)
  same-check bytes (long a) s e h k = absurd (omega (arith, e))
  same-check bytes (stuck a) (stuck b) e h k =
      ap (λ x. stuck x) (one.fault (chars bytes) a b (is-stuck bytes a h).1 (is-stuck bytes b k).1)
  same-check bytes (stuck a) s e h k = absurd (omega (arith, e))
  same-check bytes (no_tree a) (no_tree b) e h k =
      ap (λ x. no_tree x) (same-refusal bytes a b h k)
  same-check bytes (no_tree a) s e h k = absurd (omega (arith, e))
  same-check bytes (ill_formed a) (ill_formed b) e h k =
      ap (λ x. ill_formed x) (same-fault bytes a b h k)
  same-check bytes (ill_formed a) s e h k = absurd (omega (arith, e))
  same-check bytes (tree m) (tree n) e h k = ap (λ x. tree x) (same-tree bytes m n h.0 k.0)
  same-check bytes (tree m) s e h k = absurd (omega (arith, e))
  same-check bytes unread unread e h k = refl
  same-check bytes unread s e h k = absurd (omega (arith, e))

  pub one-reading :
      (bytes : List ℕ) (r s : Reading) → r ≢ unread → s ≢ unread → Reads bytes r
      → Reads bytes s → r ≡ s
  one-reading bytes r s nr ns h k =
      ⊎_elim
      (λ l. absurd (not-later bytes r s nr ns h k l))
      (λ a. ⊎_elim
      (λ l. absurd (not-later bytes s r ns nr k h l))
      (λ b. same-check bytes r s (omega (arith, a, b)) h k)
      (cases_lt (place s) (place r)))
      (cases_lt (place r) (place s))
