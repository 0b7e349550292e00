-- The tokens that segments are laid out as.
use Rattle.std.proofs.Common.{◌≡◌, ℕ, false, List, [], ◌∷◌, ◌++◌, refl, ap, ◌∙◌, Result, Ok, Err}
use Rattle.std.specs.Prelude.{codes}
use Rattle.py_token.specs.declared.error.TokenError.{TokenError}
use Rattle.py_token.specs.Strings.{◌>>=◌}
use Rattle.py_token.specs.Plain.{PToken, token}
use Rattle.py_token.specs.Plain as kind
use Rattle.py_token.specs.Segments.{Place}
use Rattle.py_token.specs.Layout.{State, outermost, put, layout}
use Rattle.cov_make_laws.specs.Trees.{Form, If, For, Try, While}
use Rattle.cov_make_laws.specs.Tokens.{block_tokens, first_tokens, last_tokens}
use Rattle.cov_make_laws.proofs.Segments.{places, first_places, last_places}
use Rattle.cov_make_laws.proofs.Unfolds.{lays}

-- ---- segments one after another

-- the tokens of segments, and then what another reading gives
unfoldable layout_then : State → ℕ → List Place → (State → Result (List PToken) TokenError)
    → Result (List PToken) TokenError
layout_then s last [] k = k s
layout_then s last (p ∷ ps) k =
    put s p.lexeme p.line p.next
    >>= λ here. layout_then here.1 last ps k >>= λ more. Ok (here.0 ++ more)

on : (last : ℕ) (ps more : List Place)
    → ((s : State)
    → layout s last (ps ++ more) ≡ layout_then s last ps (λ t. layout t last more))
    → (r : Result (List PToken × State) TokenError)
    → (r >>= λ here. layout here.1 last (ps ++ more) >>= λ m. Ok (here.0 ++ m))
    ≡ (r >>= λ here. layout_then here.1 last ps (λ t. layout t last more)
    >>= λ m. Ok (here.0 ++ m))
on last ps more again (Ok here) = ap (λ r. r >>= λ m. Ok (here.0 ++ m)) (again here.1)
on last ps more again (Err e) = refl

split : (s : State) (last : ℕ) (ps more : List Place)
    → layout s last (ps ++ more) ≡ layout_then s last ps (λ t. layout t last more)
unfolding layout layout_then
split s last [] more = refl
split s last (p ∷ ps) more =
    on last ps more (λ t. split t last ps more) (put s p.lexeme p.line p.next)

-- ---- blocks and lines

-- in the suite of a block that is read to its last line
abbrev pub opened : State
opened = record {
  indents = codes "    " ∷ [];
  brackets = [];
  begun = false;
  blanks = [];
  settled = false;
}

-- a block after no other
pub lay_top : (f : Form) (v l last : ℕ) (more : List Place) (ts : List PToken)
    → layout opened last more ≡ Ok ts
    → layout outermost last (places f v l ++ more) ≡ Ok (block_tokens f v l ts)
unfolding layout_then lays
lay_top If v l last more ts h =
    split outermost last (places If v l) more
    ∙ ap (λ r. layout_then outermost last (places If v l) (λ t. r)) h
lay_top For v l last more ts h =
    split outermost last (places For v l) more
    ∙ ap (λ r. layout_then outermost last (places For v l) (λ t. r)) h
lay_top Try v l last more ts h =
    split outermost last (places Try v l) more
    ∙ ap (λ r. layout_then outermost last (places Try v l) (λ t. r)) h
lay_top While v l last more ts h =
    split outermost last (places While v l) more
    ∙ ap (λ r. layout_then outermost last (places While v l) (λ t. r)) h

-- a block after another, whose suite it ends
pub lay_on : (f : Form) (v l last : ℕ) (more : List Place) (ts : List PToken)
    → layout opened last more ≡ Ok ts
    → layout opened last (places f v l ++ more)
    ≡ Ok (token kind.dedent l l ∷ block_tokens f v l ts)
unfolding layout_then lays
lay_on If v l last more ts h =
    split opened last (places If v l) more
    ∙ ap (λ r. layout_then opened last (places If v l) (λ t. r)) h
lay_on For v l last more ts h =
    split opened last (places For v l) more
    ∙ ap (λ r. layout_then opened last (places For v l) (λ t. r)) h
lay_on Try v l last more ts h =
    split opened last (places Try v l) more
    ∙ ap (λ r. layout_then opened last (places Try v l) (λ t. r)) h
lay_on While v l last more ts h =
    split opened last (places While v l) more
    ∙ ap (λ r. layout_then opened last (places While v l) (λ t. r)) h

pub lay_first : (l last : ℕ) (more : List Place) (ts : List PToken)
    → layout outermost last more ≡ Ok ts
    → layout outermost last (first_places l ++ more) ≡ Ok (first_tokens l ts)
unfolding layout_then lays
lay_first l last more ts h =
    split outermost last (first_places l) more
    ∙ ap (λ r. layout_then outermost last (first_places l) (λ t. r)) h

pub lay_last_top : (l last : ℕ)
    → layout outermost last (last_places l ++ [])
    ≡ Ok (last_tokens l (token kind.end last last ∷ []))
unfolding lays
lay_last_top l last = refl

pub lay_last_on : (l last : ℕ)
    → layout opened last (last_places l ++ [])
    ≡ Ok (token kind.dedent l l ∷ last_tokens l (token kind.end last last ∷ []))
unfolding lays
lay_last_on l last = refl
