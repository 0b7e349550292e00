-- Tokens with their lines, and the machine over lists of them.
use Rattle.std.proofs.Common.{◌≡◌, ℕ, zero, suc, List, [], ◌∷◌, ◌++◌, take, Option, Some, None, refl, sym, ap, ◌∙◌}
use Rattle.py_syntax.specs.Headers.{Marked}
use Rattle.py_grammar.proofs.Exact as exact
use Rattle.py_statements.specs.Machine.{State, step}
use Rattle.py_parse.specs.Places.{Source, run}
use Rattle.py_parse.proofs.Least.FinishSuites.{steady, goes}

-- a marked token and its first and last line
pub record Lexeme : Type 0 where
  pub mark : Marked
  pub first : ℕ
  pub last : ℕ

abbrev pub next : State → Lexeme → Option State
next s t = step s t.mark t.first t.last

abbrev pub reading : State → List Lexeme → Option State
reading = exact.run next

abbrev pub marks : List Lexeme → List Marked
marks [] = []
marks (t ∷ ts) = t.mark ∷ marks ts

pub marks_append : (a b : List Lexeme) → marks (a ++ b) ≡ marks a ++ marks b
marks_append [] b = refl
marks_append (t ∷ a) b = ap (λ (x : List Marked). t.mark ∷ x) (marks_append a b)

pub marks_take : (n : ℕ) (ts : List Lexeme) → marks (take n ts) ≡ take n (marks ts)
marks_take zero ts = refl
marks_take (suc n) [] = refl
marks_take (suc n) (t ∷ ts) = ap (λ (x : List Marked). t.mark ∷ x) (marks_take n ts)

-- what the machine reads in two parts
pub reading_append : (s : State) (front back : List Lexeme) → reading s (front ++ back) ≡ elim (reading s front) as (λ (w : Option State). Option State) [ None ↦ None | Some n ↦ reading n back ]
reading_append s [] back = refl
reading_append s (t ∷ ts) back = go (λ n. reading_append n ts back) (next s t)
  where
    go : ((n : State) → reading n (ts ++ back) ≡ elim (reading n ts) as (λ (w : Option State). Option State) [ None ↦ None | Some m ↦ reading m back ]) → (o : Option State) → (elim o as (λ (w : Option State). Option State) [ None ↦ None | Some n ↦ reading n (ts ++ back) ]) ≡ elim (elim o as (λ (w : Option State). Option State) [ None ↦ None | Some n ↦ reading n ts ]) as (λ (w : Option State). Option State) [ None ↦ None | Some m ↦ reading m back ]
    go rec None = refl
    go rec (Some n) = rec n

-- ---- lines by their places

abbrev pub first_at : List Lexeme → ℕ → ℕ
first_at [] p = 0
first_at (t ∷ ts) zero = t.first
first_at (t ∷ ts) (suc p) = first_at ts p

abbrev pub last_at : List Lexeme → ℕ → ℕ
last_at [] p = 0
last_at (t ∷ ts) zero = t.last
last_at (t ∷ ts) (suc p) = last_at ts p

abbrev pub source : List Lexeme → Source
source ts = record { first = first_at ts; last = last_at ts }

-- the lines of the list stand in the source, from a place on
abbrev pub Agrees : Source → List Lexeme → ℕ → Type 0
Agrees src [] p = Unit {0}
Agrees src (t ∷ ts) p = (src.first p ≡ t.first) × (src.last p ≡ t.last) × Agrees src ts (suc p)

agrees_more : (t : Lexeme) (all ts : List Lexeme) (p : ℕ) → Agrees (source all) ts p → Agrees (source (t ∷ all)) ts (suc p)
agrees_more t all [] p h = tt
agrees_more t all (u ∷ us) p h = (h.0, h.1, agrees_more t all us (suc p) h.2)

pub agrees : (ts : List Lexeme) → Agrees (source ts) ts 0
agrees [] = tt
agrees (t ∷ ts) = (refl, refl, agrees_more t ts ts 0 (agrees ts))

abbrev onward : Source → Option State → List Marked → ℕ → Option State
onward src o ms p = elim o as (λ (w : Option State). Option State) [ None ↦ None | Some n ↦ run src n ms p ]

-- The machine over such a list is the machine over its tokens, with the lines of the source.
pub reading_run : (src : Source) (s : State) (ts : List Lexeme) (p : ℕ) → Agrees src ts p → reading s ts ≡ run src s (marks ts) p
reading_run src s [] p h = refl
reading_run src s (t ∷ ts) p h =
    go (λ n. reading_run src n ts (suc p) h.2) (next s t)
    ∙ ap (λ (x : ℕ). onward src (step s t.mark x t.last) (marks ts) (suc p)) (sym h.0)
    ∙ ap (λ (x : ℕ). onward src (step s t.mark (src.first p) x) (marks ts) (suc p)) (sym h.1)
  where
    go : ((n : State) → reading n ts ≡ run src n (marks ts) (suc p)) → (o : Option State) → (elim o as (λ (w : Option State). Option State) [ None ↦ None | Some n ↦ reading n ts ]) ≡ onward src o (marks ts) (suc p)
    go rec None = refl
    go rec (Some n) = rec n

-- ---- tokens on one line

abbrev pub lined : ℕ → List Marked → List Lexeme
lined l [] = []
lined l (m ∷ ms) = record { mark = m; first = l; last = l } ∷ lined l ms

pub lined_marks : (l : ℕ) (ms : List Marked) → marks (lined l ms) ≡ ms
lined_marks l [] = refl
lined_marks l (m ∷ ms) = ap (λ (x : List Marked). m ∷ x) (lined_marks l ms)

pub lined_reads : (l : ℕ) (s : State) (ms : List Marked) → reading s (lined l ms) ≡ steady l s ms
lined_reads l s [] = refl
lined_reads l s (m ∷ ms) = go (λ n. lined_reads l n ms) (step s m l l)
  where
    go : ((n : State) → reading n (lined l ms) ≡ steady l n ms) → (o : Option State) → (elim o as (λ (w : Option State). Option State) [ None ↦ None | Some n ↦ reading n (lined l ms) ]) ≡ goes l o ms
    go rec None = refl
    go rec (Some n) = rec n
