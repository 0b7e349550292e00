-- What is known after a walk over tokens that rise.
--     Span                 functions whose lines rise, between two lines
--     Passed, Walk         after tokens, and after those of statements with these functions
--     joined and the like  walks one after another
--     pass, end_line       walks over tokens of a line
use Rattle.std.proofs.Common.{◌≡◌, ◌≤◌, ◌<◌, ◌+◌, ℕ, suc, List, [], ◌∷◌, ◌++◌, length, drop, refl, subst, arith, drop-drop}
use Rattle.py_token.specs.declared.token.Keyword.{Keyword}
use Rattle.py_token.specs.Plain.{name, keyword, int, str, fstring, mark, newline, indent, dedent, end, PToken, token}
use Rattle.py_syntax.specs.Functions.{Function}
use Rattle.py_syntax.specs.Headers.{Marked, put, kinds_marked}
use Rattle.py_syntax.specs.Kinds.{Kind, Word, Newline, bare_token, bare}
use Rattle.py_syntax.specs.Spelling.{first_line}
use Rattle.py_line_laws.specs.OwnLines.{NoneAt, HaveOwnLines}
use Rattle.py_line_laws.proofs.Rising.{Rises}

-- ---- functions

-- each begins on a line from this one on, after the lines of those before it, and before that one
abbrev pub Span : ℕ → ℕ → List Function → Type 0
Span l h [] = l ≤ h
Span l h (f ∷ fs) = (l ≤ f.line) × Span (suc f.line) h fs

pub span_le : (l h : ℕ) (fs : List Function) → Span l h fs → l ≤ h
span_le l h [] s = s
span_le l h (f ∷ fs) s = let on = s.0 in let rest = span_le (suc f.line) h fs s.1 in omega arith

pub span_from : (l k h : ℕ) (fs : List Function) → l ≤ k → Span k h fs → Span l h fs
span_from l k h [] le s = omega arith
span_from l k h (f ∷ fs) le s = let on = s.0 in (omega arith, s.1)

pub span_to : (l h k : ℕ) (fs : List Function) → h ≤ k → Span l h fs → Span l k fs
span_to l h k [] le s = omega arith
span_to l h k (f ∷ fs) le s = (s.0, span_to (suc f.line) h k fs le s.1)

pub span_append : (l h k : ℕ) (fs gs : List Function) → Span l h fs → Span h k gs → Span l k (fs ++ gs)
span_append l h k [] gs s t = span_from l h k gs s t
span_append l h k (f ∷ fs) gs s t = (s.0, span_append (suc f.line) h k fs gs s.1 t)

none_before : (l k h : ℕ) (fs : List Function) → l < k → Span k h fs → NoneAt l fs
none_before l k h [] lt s = tt
none_before l k h (f ∷ fs) lt s = let on = s.0 in ((λ same. absurd (omega (arith, same))), none_before l (suc f.line) h fs (omega arith) s.1)

pub span_own : (l h : ℕ) (fs : List Function) → Span l h fs → HaveOwnLines fs
span_own l h [] s = tt
span_own l h (f ∷ fs) s = (none_before f.line (suc f.line) h fs (omega arith) s.1, span_own (suc f.line) h fs s.1)

-- ---- walks

-- after tokens: these ones are left, which are those of `rest`
pub record Passed (l : ℕ) (us : List PToken) (rest : List Marked) : Type 0 where
  pub high : ℕ
  pub later : l ≤ high
  pub rises : Rises high us
  pub same : bare us ≡ kinds_marked rest

-- the same after tokens of statements in which these functions are
pub record Walk (l : ℕ) (fs : List Function) (us : List PToken) (rest : List Marked) : Type 0 where
  pub high : ℕ
  pub span : Span l high fs
  pub rises : Rises high us
  pub same : bare us ≡ kinds_marked rest

abbrev pub joined : (l : ℕ) (fs gs : List Function) (us vs : List PToken) (mid rest : List Marked) (w : Walk l fs us mid) → Walk w.high gs vs rest → Walk l (fs ++ gs) vs rest
joined l fs gs us vs mid rest w v = record { high = v.high; span = span_append l w.high v.high fs gs w.span v.span; rises = v.rises; same = v.same }

-- tokens before the statements, and after them
abbrev pub before : (l : ℕ) (fs : List Function) (us vs : List PToken) (mid rest : List Marked) (p : Passed l us mid) → Walk p.high fs vs rest → Walk l fs vs rest
before l fs us vs mid rest p w = record { high = w.high; span = span_from l p.high w.high fs p.later w.span; rises = w.rises; same = w.same }

abbrev pub behind_it : (l : ℕ) (fs : List Function) (us vs : List PToken) (mid rest : List Marked) (w : Walk l fs us mid) → Passed w.high vs rest → Walk l fs vs rest
behind_it l fs us vs mid rest w p = record { high = p.high; span = span_to l w.high p.high fs p.later w.span; rises = p.rises; same = p.same }

-- only tokens
abbrev pub alone : (l : ℕ) (us : List PToken) (rest : List Marked) → Passed l us rest → Walk l [] us rest
alone l us rest p = record { high = p.high; span = p.later; rises = p.rises; same = p.same }

abbrev pub walked : (l : ℕ) (fs : List Function) (us : List PToken) (rest : List Marked) → Walk l fs us rest → Passed l us rest
walked l fs us rest w = record { high = w.high; later = span_le l w.high fs w.span; rises = w.rises; same = w.same }

abbrev pub after_both : (l : ℕ) (us vs : List PToken) (mid rest : List Marked) (p : Passed l us mid) → Passed p.high vs rest → Passed l vs rest
after_both l us vs mid rest p q = let first = p.later in let second = q.later in record { high = q.high; later = omega arith; rises = q.rises; same = q.same }

-- ---- places

pub drop_to : (ts : List PToken) (a b n : ℕ) → a + b ≡ n → drop b (drop a ts) ≡ drop n ts
drop_to ts a b n is = let e = drop-drop b a ts in cc

pub drop_same : (ts : List PToken) (a n : ℕ) → a ≡ n → drop a ts ≡ drop n ts
drop_same ts a n is = cc

pub three_drops : (ts : List PToken) (a b c n : ℕ) → a + b + c ≡ n → drop c (drop b (drop a ts)) ≡ drop n ts
three_drops ts a b c n is =
    let e = drop_to ts a b (a + b) refl in
    let d = drop_to ts (a + b) c n is in
    cc

pub two_more : (ts : List PToken) (a : ℕ) → drop 1 (drop 1 (drop a ts)) ≡ drop (a + 2) ts
two_more ts a = three_drops ts a 1 1 (a + 2) (omega arith)

pub at_place : (l : ℕ) (fs : List Function) (us vs : List PToken) (rest : List Marked) → us ≡ vs → Walk l fs us rest → Walk l fs vs rest
at_place l fs us vs rest is w = subst (λ ts. Walk l fs ts rest) is w

pub passed_at : (l : ℕ) (us vs : List PToken) (rest : List Marked) → us ≡ vs → Passed l us rest → Passed l vs rest
passed_at l us vs rest is p = subst (λ ts. Passed l ts rest) is p

-- ---- tokens

pub record Stepped (l : ℕ) (ts : List PToken) : Type 0 where
  pub high : ℕ
  pub later : l ≤ high
  pub rises : Rises high ts

pub step : (l : ℕ) (t : PToken) (ts : List PToken) → Rises l (t ∷ ts) → Stepped l ts
step l (token (name x) first last) ts r = record { high = first; later = r.0; rises = r.1 }
step l (token (keyword w) first last) ts r = record { high = first; later = r.0; rises = r.1 }
step l (token (int n) first last) ts r = record { high = first; later = r.0; rises = r.1 }
step l (token (str x) first last) ts r = record { high = first; later = r.0; rises = r.1 }
step l (token (fstring ps) first last) ts r = record { high = first; later = r.0; rises = r.1 }
step l (token (mark m) first last) ts r = record { high = first; later = r.0; rises = r.1 }
step l (token newline first last) ts r = record { high = suc l; later = omega arith; rises = r.1 }
step l (token indent first last) ts r = record { high = l; later = omega arith; rises = r.1 }
step l (token dedent first last) ts r = record { high = l; later = omega arith; rises = r.1 }
step l (token end first last) ts r = record { high = l; later = omega arith; rises = r.1 }

tails : (a b : Kind) (xs ys : List Kind) → a ∷ xs ≡ b ∷ ys → xs ≡ ys
tails a b xs ys e = cc

heads : (a b : Kind) (xs ys : List Kind) → a ∷ xs ≡ b ∷ ys → a ≡ b
heads a b xs ys e = cc

-- tokens on a line
pub pass : (ks : List Kind) (l : ℕ) (ts : List PToken) (rest : List Marked) → bare ts ≡ kinds_marked (put ks rest) → Rises l ts → Passed l (drop (length ks) ts) rest
pass [] l ts rest same r = record { high = l; later = omega arith; rises = r; same = same }
pass (k ∷ ks) l [] rest same r = absurd cc
pass (k ∷ ks) l (t ∷ ts) rest same r =
    let s = step l t ts r in
    let p = pass ks s.high ts rest (tails (bare_token t) k (bare ts) (kinds_marked (put ks rest)) same) s.rises in
    let first = s.later in
    let second = p.later in
    record { high = p.high; later = omega arith; rises = p.rises; same = p.same }

over_newline : (l : ℕ) (t : PToken) (ts : List PToken) → bare_token t ≡ Newline → Rises l (t ∷ ts) → Rises (suc l) ts
over_newline l (token (name x) first last) ts is r = absurd cc
over_newline l (token (keyword w) first last) ts is r = absurd cc
over_newline l (token (int n) first last) ts is r = absurd cc
over_newline l (token (str x) first last) ts is r = absurd cc
over_newline l (token (fstring ps) first last) ts is r = absurd cc
over_newline l (token (mark m) first last) ts is r = absurd cc
over_newline l (token newline first last) ts is r = r.1
over_newline l (token indent first last) ts is r = absurd cc
over_newline l (token dedent first last) ts is r = absurd cc
over_newline l (token end first last) ts is r = absurd cc

-- the end of a line: what stands after it stands on a later one
pub end_line : (l : ℕ) (ts : List PToken) (rest : List Marked) → bare ts ≡ kinds_marked (put (Newline ∷ []) rest) → Rises l ts → Passed (suc l) (drop 1 ts) rest
end_line l [] rest same r = absurd cc
end_line l (t ∷ ts) rest same r =
    record { high = suc l; later = omega arith; rises = over_newline l t ts (heads (bare_token t) Newline (bare ts) (kinds_marked rest) same) r; same = tails (bare_token t) Newline (bare ts) (kinds_marked rest) same }

-- the first token of a header
on_word : (l : ℕ) (w : Keyword) (t : PToken) (ts : List PToken) → bare_token t ≡ Word w → Rises l (t ∷ ts) → (l ≤ first_line (t ∷ ts)) × Rises (first_line (t ∷ ts)) (t ∷ ts)
on_word l w (token (name x) first last) ts is r = absurd cc
on_word l w (token (keyword k) first last) ts is r = (r.0, (omega arith, r.1))
on_word l w (token (int n) first last) ts is r = absurd cc
on_word l w (token (str x) first last) ts is r = absurd cc
on_word l w (token (fstring ps) first last) ts is r = absurd cc
on_word l w (token (mark m) first last) ts is r = absurd cc
on_word l w (token newline first last) ts is r = absurd cc
on_word l w (token indent first last) ts is r = absurd cc
on_word l w (token dedent first last) ts is r = absurd cc
on_word l w (token end first last) ts is r = absurd cc

pub word_first : (l : ℕ) (w : Keyword) (ks : List Kind) (ts : List PToken) → bare ts ≡ Word w ∷ ks → Rises l ts → (l ≤ first_line ts) × Rises (first_line ts) ts
word_first l w ks [] same r = absurd cc
word_first l w ks (t ∷ ts) same r = on_word l w t ts (heads (bare_token t) (Word w) (bare ts) ks same) r
