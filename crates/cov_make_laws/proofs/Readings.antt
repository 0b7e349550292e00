-- Reading the bytes of a source comes to its tree.
use Rattle.std.proofs.Common.{◌≡◌, ◌⊎◌, inl, inr, ℕ, ◌+◌, ◌<◌, ◌≤◌, List, [], ◌++◌, length, drop, refl, arith, ap, sym, ◌∙◌}
use Rattle.std.specs.Prelude.{nat_lt, Bool, true, false}
use Rattle.std.specs.Str.{IsUtf8, chars}
use Rattle.std.proofs.lemmas.Str.{chars-IsAscii, IsUtf8-from_ascii}
use Rattle.std.proofs.lemmas.List.{take-append-drop}
use Rattle.cov_make.specs.Source.{source}
use Rattle.py_token.specs.declared.error.TokenError.{TokenError}
use Rattle.py_token.specs.declared.error.TokenError.TheVariants as token_error
use Rattle.py_token.specs.Plain.{PToken}
use Rattle.py_token.specs.Source.{line_count, most_lines, last_line}
use Rattle.py_token.specs.Spelling as text
use Rattle.py_token.specs.Spelling.{StuckAt, OneSpelling, NeverBoth}
use Rattle.py_syntax.specs.Tree.{Stmts}
use Rattle.py_syntax.specs.Kinds.{bare}
use Rattle.py_syntax.specs.Headers.{marked}
use Rattle.py_syntax.specs.Refusals.{StopsAt}
use Rattle.py_syntax.specs.Spelling.{Spells, HasTokens, IsWithin, front, module_tokens}
use Rattle.py_parse.specs.declared.error.DepthKind.{DepthKind}
use Rattle.py_parse.specs.declared.error.DepthKind.TheVariants as depth
use Rattle.py_parse.specs.declared.error.SyntaxError.{SyntaxError}
use Rattle.py_parse.specs.declared.error.SyntaxError.TheVariants as syntax_error
use Rattle.py_parse.specs.Refusal.{IsRefused, OneTree}
use Rattle.py_scope.specs.declared.error.ScopeError.{ScopeError}
use Rattle.py_scope.specs.declared.error.ScopeError.TheVariants as scope_error
use Rattle.py_scope.specs.Answer.{IsFirst}
use Rattle.py_scope.specs.Faults.{faults_of}
use Rattle.cov_run.specs.Reading.{Reading, no_text, long, stuck, no_tree, ill_formed, tree, unread, Reads, HasTree}
use Rattle.cov_make_laws.specs.Trees.{made_tree}
use Rattle.cov_make_laws.specs.Tokens.{source_tokens}
use Rattle.cov_make_laws.specs.Readings.{MadeAreReadable, MadeAreRead}
use Rattle.cov_make_laws.proofs.Characters.{source_ascii, source_length}
use Rattle.cov_make_laws.proofs.Texts.{same_source, source_lines, spells}
use Rattle.cov_make_laws.proofs.Trees.{tree_spelled, tree_within, tree_well_formed}

pub readable : MadeAreReadable
readable seed size = record {
  lines = source_lines seed size;
  whole = same_source seed size;
  spells = spells seed size;
  spelled = tree_spelled _ seed size;
  within = tree_within seed size;
  well_formed = tree_well_formed seed size;
}

-- ---- tokens that a tree within the limits has are refused nowhere

below : (a b : ℕ) → nat_lt a b ≡ true → a < b
below a b e = grind (arith, e)

at_end : (a b : ℕ) → a ≤ b → nat_lt a b ≡ false → a ≡ b
at_end a b h e = grind (arith, h, e)

begins_with : (m : Stmts) (ts : List PToken) (n : ℕ) → Spells m ts
    → module_tokens m ≡ front n ts ++ drop n (marked (bare ts))
begins_with m ts n h =
    sym (h.0.2) ∙ ap marked (sym h.1) ∙ sym (take-append-drop n (marked (bare ts)))

abbrev Stops : List PToken → ℕ → Type 0
Stops ts place =
    StopsAt HasTokens IsWithin (λ n. Spells n ts) (λ n. front n ts) (length ts) place

never_stops : (m : Stmts) (ts : List PToken) (place : ℕ) (b : Bool)
    → nat_lt place (length ts) ≡ b → Spells m ts → IsWithin m → Stops ts place → ⊥
never_stops m ts place true e h w s =
    s.longest (below place (length ts) e)
    (m, drop (place + 1) (marked (bare ts)), (h.0, begins_with m ts (place + 1) h), w)
never_stops m ts place false e h w s = s.no_tree (at_end place (length ts) s.inside e) m h

never_refused : (m : Stmts) (ts : List PToken) (e : SyntaxError) → Spells m ts → IsWithin m
    → IsRefused ts e → e ≡ syntax_error.NoMemory
never_refused m ts (syntax_error.Unexpected line) h w r =
    absurd (never_stops m ts r.0 _ refl h w r.1.0)
never_refused m ts (syntax_error.TooDeep depth.Suites line) h w r =
    absurd (never_stops m ts r.0 _ refl h w r.1.0.0)
never_refused m ts (syntax_error.TooDeep depth.Expressions line) h w r =
    absurd (never_stops m ts r.0 _ refl h w r.1.0.0)
never_refused m ts syntax_error.NoMemory h w r = refl

not_unexpected : (n : ℕ) → syntax_error.Unexpected n ≡ syntax_error.NoMemory → ⊥
not_unexpected n e = cc

not_deep : (k : DepthKind) (n : ℕ) → syntax_error.TooDeep k n ≡ syntax_error.NoMemory → ⊥
not_deep k n e = cc

-- ---- the checks

chars_are : (seed size : ℕ) → chars (source seed size) ≡ source seed size
chars_are seed size = chars-IsAscii (source seed size) (source_ascii seed size)

utf8_is : (seed size : ℕ) → IsUtf8 (source seed size)
utf8_is seed size = IsUtf8-from_ascii (source seed size) (source_ascii seed size)

unfoldable tokens_of : ℕ → ℕ → List PToken
tokens_of seed size = source_tokens (last_line (source seed size)) seed size

chars_spell : (seed size : ℕ) → text.Spells (chars (source seed size)) (tokens_of seed size)
unfolding tokens_of
chars_spell seed size = rw (chars_are seed size) (spells seed size)

tokens_spelled : (seed size : ℕ) → Spells (made_tree seed size) (tokens_of seed size)
unfolding tokens_of
tokens_spelled seed size = tree_spelled (last_line (source seed size)) seed size

too_long : (seed size lines : ℕ) → size ≤ 16000 → lines ≡ line_count (chars (source seed size))
    → most_lines < lines → ⊥
too_long seed size lines low e h =
    omega (arith, low, e, h, ap line_count (chars_are seed size), source_lines seed size)

not_stuck : (seed size : ℕ) → NeverBoth → (e : TokenError)
    → StuckAt (chars (source seed size)) e → ⊥
not_stuck seed size never e h =
    never (chars (source seed size)) (tokens_of seed size) e (chars_spell seed size) h

has_same : (m : Stmts) (a b : List PToken) → a ≡ b → Spells m a → Spells m b
has_same m a b e h = rw (sym e) h

module _ (seed size : ℕ) (one_list : OneSpelling) where
  same_tokens : (ts : List PToken) → text.Spells (chars (source seed size)) ts
      → ts ≡ tokens_of seed size
  same_tokens ts h =
      one_list (chars (source seed size)) ts (tokens_of seed size) h (chars_spell seed size)

  refused_by : (e : SyntaxError) (ts : List PToken) → text.Spells (chars (source seed size)) ts
      → IsRefused ts e → e ≡ syntax_error.NoMemory
  refused_by e ts h r =
      never_refused (made_tree seed size) (tokens_of seed size) e (tokens_spelled seed size)
      (tree_within seed size) (rw (sym (same_tokens ts h)) r)

  -- the tree of these bytes is the one
  one_of : OneTree → (m : Stmts) → HasTree (source seed size) m → m ≡ made_tree seed size
  one_of one_module m h =
      one_module m (made_tree seed size) (tokens_of seed size)
      (has_same m h.tokens (tokens_of seed size) (same_tokens h.tokens h.read.spelled) h.spelled)
      (tokens_spelled seed size)

no_first : (faults : List ScopeError) (e : ScopeError) → faults ≡ [] → IsFirst faults e → ⊥
no_first faults e none h = absurd (grind (arith, none, h.is_one))

faultless : (seed size : ℕ) → OneSpelling → OneTree → (m : Stmts) → HasTree (source seed size) m
    → (e : ScopeError) → IsFirst (faults_of m) e → ⊥
faultless seed size one_list one_module m h e first =
    no_first (faults_of m) e
    (ap faults_of (one_of seed size one_list one_module m h) ∙ tree_well_formed seed size) first

-- ---- what reading comes to

-- the tree, or nothing for want of memory
abbrev pub IsTreeOf : ℕ → ℕ → Reading → Type 0
IsTreeOf seed size r = (r ≡ tree (made_tree seed size)) ⊎ (r ≡ unread)

-- reading these bytes comes to that
abbrev pub Comes : ℕ → ℕ → Type 0
Comes seed size = (r : Reading) → Reads (source seed size) r → IsTreeOf seed size r

module _ (one_list : OneSpelling) (never : NeverBoth) (one_module : OneTree) where
  pub comes : (seed size : ℕ) → size ≤ 16000 → Comes seed size
  comes seed size low (no_text line) h = absurd (h.0 (utf8_is seed size))
  comes seed size low (long lines) h = absurd (too_long seed size lines low h.1 h.2)
  comes seed size low (stuck (token_error.BadCharacter l)) h =
      absurd (not_stuck seed size never _ h.1)
  comes seed size low (stuck (token_error.BadIndent l)) h =
      absurd (not_stuck seed size never _ h.1)
  comes seed size low (stuck (token_error.OpenString l)) h =
      absurd (not_stuck seed size never _ h.1)
  comes seed size low (stuck (token_error.OpenBracket l)) h =
      absurd (not_stuck seed size never _ h.1)
  comes seed size low (stuck (token_error.WideNumber l)) h =
      absurd (not_stuck seed size never _ h.1)
  comes seed size low (stuck token_error.NoMemory) h = absurd h
  comes seed size low (no_tree (syntax_error.Unexpected l)) h =
      absurd (not_unexpected l (refused_by seed size one_list _ h.0 h.1.spelled h.2))
  comes seed size low (no_tree (syntax_error.TooDeep k l)) h =
      absurd (not_deep k l (refused_by seed size one_list _ h.0 h.1.spelled h.2))
  comes seed size low (no_tree syntax_error.NoMemory) h = absurd h
  comes seed size low (ill_formed (scope_error.BreakOutside l)) h =
      absurd (faultless seed size one_list one_module h.0 h.1 _ h.2)
  comes seed size low (ill_formed (scope_error.ReturnOutside l)) h =
      absurd (faultless seed size one_list one_module h.0 h.1 _ h.2)
  comes seed size low (ill_formed (scope_error.GlobalAfterUse l)) h =
      absurd (faultless seed size one_list one_module h.0 h.1 _ h.2)
  comes seed size low (ill_formed (scope_error.NestedFunction l)) h =
      absurd (faultless seed size one_list one_module h.0 h.1 _ h.2)
  comes seed size low (ill_formed (scope_error.EarlyIrrefutable l)) h =
      absurd (faultless seed size one_list one_module h.0 h.1 _ h.2)
  comes seed size low (ill_formed (scope_error.TwiceNamed l)) h =
      absurd (faultless seed size one_list one_module h.0 h.1 _ h.2)
  comes seed size low (ill_formed scope_error.NoMemory) h = absurd h
  comes seed size low (tree m) h =
      inl (ap tree (one_of seed size one_list one_module m h.0))
  comes seed size low unread h = inr refl

  pub made_read : MadeAreRead
  made_read seed size low = record {
    short = omega (arith, low, source_length seed size);
    utf8 = utf8_is seed size;
    comes = comes seed size low;
  }
