-- Tokens whose logical lines go on down the text.
--     bound, Stands      what a token asks of lines, and of the tokens after it
--     Rises              tokens on such lines
use Rattle.std.proofs.Common.{◌≤◌, ℕ, suc, List, [], ◌∷◌, arith}
use Rattle.py_token.specs.Plain.{PKind, name, keyword, int, str, fstring, mark, newline, indent, dedent, end, PToken, token}
use Rattle.py_line_laws.proofs.Written.{IsWritten}

-- a token that is written stands on no earlier line
abbrev pub Stands : PKind → ℕ → ℕ → Type 0
Stands (name x) l first = l ≤ first
Stands (keyword w) l first = l ≤ first
Stands (int n) l first = l ≤ first
Stands (str x) l first = l ≤ first
Stands (fstring ps) l first = l ≤ first
Stands (mark m) l first = l ≤ first
Stands newline l first = Unit {0}
Stands indent l first = Unit {0}
Stands dedent l first = Unit {0}
Stands end l first = Unit {0}

-- the line from which on the tokens after it stand
abbrev pub bound : PKind → ℕ → ℕ → ℕ
bound (name x) l first = first
bound (keyword w) l first = first
bound (int n) l first = first
bound (str x) l first = first
bound (fstring ps) l first = first
bound (mark m) l first = first
bound newline l first = suc l
bound indent l first = l
bound dedent l first = l
bound end l first = l

-- Each token that is written stands on a line from this one on, and no earlier than the tokens before
-- it. After a `Newline` it stands on a later line than they.
abbrev pub Rises : ℕ → List PToken → Type 0
Rises l [] = Unit {0}
Rises l (token kind first last ∷ ts) = Stands kind l first × Rises (bound kind l first) ts

pub lower : (l h : ℕ) (ts : List PToken) → l ≤ h → Rises h ts → Rises l ts
lower l h [] le r = tt
lower l h (token (name x) first last ∷ ts) le r = let on = r.0 in (omega arith, r.1)
lower l h (token (keyword w) first last ∷ ts) le r = let on = r.0 in (omega arith, r.1)
lower l h (token (int n) first last ∷ ts) le r = let on = r.0 in (omega arith, r.1)
lower l h (token (str x) first last ∷ ts) le r = let on = r.0 in (omega arith, r.1)
lower l h (token (fstring ps) first last ∷ ts) le r = let on = r.0 in (omega arith, r.1)
lower l h (token (mark m) first last ∷ ts) le r = let on = r.0 in (omega arith, r.1)
lower l h (token newline first last ∷ ts) le r = (tt, lower (suc l) (suc h) ts (omega arith) r.1)
lower l h (token indent first last ∷ ts) le r = (tt, lower l h ts le r.1)
lower l h (token dedent first last ∷ ts) le r = (tt, lower l h ts le r.1)
lower l h (token end first last ∷ ts) le r = (tt, lower l h ts le r.1)

-- a token that is written, in front
pub front : (l : ℕ) (kind : PKind) (last : ℕ) (ts : List PToken) → IsWritten kind → Rises l ts → Rises l (token kind l last ∷ ts)
front l (name x) last ts w r = (omega arith, r)
front l (keyword k) last ts w r = (omega arith, r)
front l (int n) last ts w r = (omega arith, r)
front l (str x) last ts w r = (omega arith, r)
front l (fstring ps) last ts w r = (omega arith, r)
front l (mark m) last ts w r = (omega arith, r)
front l newline last ts w r = absurd w
front l indent last ts w r = absurd w
front l dedent last ts w r = absurd w
front l end last ts w r = absurd w
