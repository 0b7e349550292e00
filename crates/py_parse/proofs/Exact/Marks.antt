-- The token at a place as the machine takes it.
use Rattle.std.proofs.Common.{◌≡◌, ℕ, zero, suc, ◌+◌, Bool, true, false, ◌&&◌, List, [], ◌∷◌, drop, refl, sym, ap, ◌∙◌, arith}
use Rattle.py_token.specs.Plain.{PToken, first_of, last_of}
use Rattle.py_syntax.specs.Kinds.{Kind, bare_token, bare}
use Rattle.py_syntax.specs.Headers.{Marked, is_match, is_header, ends_line, marked_from, marked}
use Rattle.py_statements.specs.Machine.{State, plain_step, step}
use Rattle.py_statements.specs.ViewMarks.{begins_from, heads, header_at}
use Rattle.py_parse.proofs.Exact.WholeLists.{Lexeme, next}
use Rattle.py_parse.proofs.Exact.WholeTokens.{lexemes, with_lines}
use Rattle.py_parse.proofs.Exact.WholeStands.{lexeme_at}

-- the token at a place with its mark and its lines
abbrev pub lexeme : List PToken → ℕ → PToken → Lexeme
lexeme ts p t = record { mark = record { kind = bare_token t; header = header_at (bare ts) p }; first = first_of t; last = last_of t }

mark_from : (b : Bool) (ks : List Kind) (p : ℕ) (k : Kind) (rest : List Kind) → drop p ks ≡ k ∷ rest → drop p (marked_from b ks) ≡ record { kind = k; header = begins_from b ks p && (is_match k && is_header rest) } ∷ marked_from (ends_line k) rest
mark_from b [] zero k rest h = absurd cc
mark_from b [] (suc p) k rest h = absurd cc
mark_from b (x ∷ ks) zero k rest h =
    let one : x ≡ k = cc in let two : ks ≡ rest = cc in
    ap (λ (y : Kind). record { kind = y; header = b && (is_match y && is_header ks) } ∷ marked_from (ends_line y) ks) one
    ∙ ap (λ (ys : List Kind). record { kind = k; header = b && (is_match k && is_header ys) } ∷ marked_from (ends_line k) ys) two
mark_from b (x ∷ ks) (suc p) k rest h = mark_from (ends_line x) ks p k rest h

pub bare_there : (p : ℕ) (ts : List PToken) (t : PToken) (more : List PToken) → drop p ts ≡ t ∷ more → drop p (bare ts) ≡ bare_token t ∷ bare more
bare_there p ts t more h = bare_drop p ts ∙ ap bare h
  where
    bare_drop : (p : ℕ) (ts : List PToken) → drop p (bare ts) ≡ bare (drop p ts)
    bare_drop zero ts = refl
    bare_drop (suc p) [] = refl
    bare_drop (suc p) (t ∷ ts) = bare_drop p ts

pub there : (ts : List PToken) (p : ℕ) (t : PToken) (more : List PToken) → drop p ts ≡ t ∷ more → (rest : List Lexeme) × (drop p (with_lines ts) ≡ lexeme ts p t ∷ rest)
there ts p t more h =
    let k = bare_there p ts t more h in
    let same : heads (drop p (bare ts)) ≡ (is_match (bare_token t) && is_header (bare more)) = ap heads k in
    let mark : record { kind = bare_token t; header = begins_from true (bare ts) p && (is_match (bare_token t) && is_header (bare more)) } ≡ (lexeme ts p t).mark = ap (λ (c : Bool). record { kind = bare_token t; header = begins_from true (bare ts) p && c }) (sym same) in
    (lexemes (marked_from (ends_line (bare_token t)) (bare more)) more, lexeme_at p (marked (bare ts)) ts (lexeme ts p t).mark (marked_from (ends_line (bare_token t)) (bare more)) t more (mark_from true (bare ts) p (bare_token t) (bare more) k ∙ ap (λ (m : Marked). m ∷ marked_from (ends_line (bare_token t)) (bare more)) mark) h)

-- after a token that ends no line no header begins
no_line : (b : Bool) (ks : List Kind) (p : ℕ) (k : Kind) (rest : List Kind) → drop p ks ≡ k ∷ rest → begins_from b ks (suc p) ≡ ends_line k
no_line b [] zero k rest h = absurd cc
no_line b [] (suc p) k rest h = absurd cc
no_line b (x ∷ ks) zero k rest h = let one : x ≡ k = cc in ap ends_line one
no_line b (x ∷ ks) (suc p) k rest h = no_line (ends_line x) ks p k rest h

pub no_header : (ts : List PToken) (p : ℕ) (t : PToken) (more : List PToken) → drop p ts ≡ t ∷ more → ends_line (bare_token t) ≡ false → header_at (bare ts) (p + 1) ≡ false
no_header ts p t more h is =
    let at : begins_from true (bare ts) (suc p) ≡ false = no_line true (bare ts) p (bare_token t) (bare more) (bare_there p ts t more h) ∙ is in
    let one : p + 1 ≡ suc p = omega arith in
    ap (header_at (bare ts)) one ∙ ap (λ (c : Bool). c && heads (drop (suc p) (bare ts))) at

-- a step where no header begins
pub plainly : (ts : List PToken) (p : ℕ) (t : PToken) (s : State) → header_at (bare ts) p ≡ false → next s (lexeme ts p t) ≡ plain_step s (bare_token t) (first_of t) (last_of t)
plainly ts p t s h = ap (λ (c : Bool). step s (record { kind = bare_token t; header = c }) (first_of t) (last_of t)) h

-- the tokens after one
pub drop_more : {A : Type 0} → (p : ℕ) (ts : List A) (t : A) (more : List A) → drop p ts ≡ t ∷ more → drop (p + 1) ts ≡ more
drop_more p ts t more h = let one : p + 1 ≡ suc p = omega arith in ap (λ (n : ℕ). drop n ts) one ∙ go p ts t more h
  where
    go : {A : Type 0} → (p : ℕ) (ts : List A) (t : A) (more : List A) → drop p ts ≡ t ∷ more → drop (suc p) ts ≡ more
    go zero [] t more h = absurd cc
    go zero (u ∷ ts) t more h = cc
    go (suc p) [] t more h = absurd cc
    go (suc p) (u ∷ ts) t more h = go p ts t more h
