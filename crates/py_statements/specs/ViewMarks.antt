-- Where the headers of `match` statements begin, by places.
use Rattle.std.specs.Prelude.{ℕ, zero, suc, Bool, true, false, ◌&&◌, List, [], ◌∷◌, drop}
use Rattle.py_token.specs.declared.token.Token.{Token}
use Rattle.py_token.specs.View.{view_tokens}
use Rattle.py_syntax.specs.Kinds.{Kind, Newline, bare}
use Rattle.py_syntax.specs.Headers.{is_match, is_header, ends_line}

-- the kinds of the tokens of a list
abbrev pub kinds_of : List Token → List Kind
kinds_of ts = bare (view_tokens ts)

-- whether a token is the end of a line
abbrev pub is_newline : Kind → Bool
is_newline Newline = true
is_newline k = false

-- whether a logical line may begin at the place; the first argument says it of the first
abbrev pub begins_from : Bool → List Kind → ℕ → Bool
begins_from b ks zero = b
begins_from b [] (suc p) = false
begins_from b (k ∷ ks) (suc p) = begins_from (ends_line k) ks p

-- whether the first token is the name `match`, and the others make its line a header
abbrev pub heads : List Kind → Bool
heads [] = false
heads (k ∷ ks) = is_match k && is_header ks

-- whether the header of a `match` begins at the place
abbrev pub header_at : List Kind → ℕ → Bool
header_at ks p = begins_from true ks p && heads (drop p ks)
