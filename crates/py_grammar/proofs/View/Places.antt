-- The kinds of the tokens of the code's list, by their places.
use Rattle.std.proofs.Common.{◌≡◌, ℕ, suc, ◌+◌, ◌<◌, List, ◌∷◌, length, drop, get_or, sym, ap, ◌∙◌, add-one}
use Rattle.std.proofs.lemmas.List.{drop-map, length-map}
use Rattle.std.proofs.Math.Seq.{drop-cons}
use Rattle.py_token.specs.declared.token.Token.{Token, out-Token}
use Rattle.py_token.specs.Plain as plain_
use Rattle.py_token.specs.View.{view_token, view_tokens, view_kind}
use Rattle.py_token.proofs.Views.{plain-token}
use Rattle.py_syntax.specs.Kinds.{Kind, bare, bare_token, bare_kind}

-- the kinds of the tokens
abbrev pub kinds_of_all : List Token → List Kind
kinds_of_all tokens = bare (view_tokens tokens)

abbrev pub kind_at : Token → Kind
kind_at t = bare_kind (view_kind (out-Token t).kind)

pub kinds_length : (tokens : List Token) → length (kinds_of_all tokens) ≡ length tokens
kinds_length tokens = length-map (view_tokens tokens) bare_token ∙ length-map tokens view_token

pub kind_there : (tokens : List Token) (place : ℕ) (t : Token) → place < length tokens → drop place (kinds_of_all tokens) ≡ kind_at (get_or tokens place t) ∷ drop (place + 1) (kinds_of_all tokens)
kind_there tokens place t lt =
    let moved : (n : ℕ) → drop n (kinds_of_all tokens) ≡ bare (view_tokens (drop n tokens)) = λ n. drop-map bare_token n (view_tokens tokens) ∙ ap bare (drop-map view_token n tokens) in
    moved place
    ∙ ap (λ (ts : List Token). bare (view_tokens ts)) (drop-cons tokens place t lt)
    ∙ ap (λ (u : plain_.PToken). bare_token u ∷ bare (view_tokens (drop (suc place) tokens))) (plain-token (get_or tokens place t))
    ∙ ap (λ (n : ℕ). kind_at (get_or tokens place t) ∷ bare (view_tokens (drop n tokens))) (sym (add-one place))
    ∙ ap (λ (ts : List Kind). kind_at (get_or tokens place t) ∷ ts) (sym (moved (place + 1)))
