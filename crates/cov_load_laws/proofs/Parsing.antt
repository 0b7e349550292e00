-- Two refusals of a list stop at one place, and no tree of it goes past that.
use Rattle.std.proofs.Common.{◌≡◌, ◌≢◌, ⊎_elim, ℕ, zero, suc, ◌+◌, ◌<◌, ◌≤◌, List, [], ◌∷◌, ◌++◌, length, take, drop, refl, sym, ap, ◌∙◌, subst, arith, append_assoc}
use Rattle.std.proofs.lemmas.Bool.{cases_lt, cases_eq}
use Rattle.std.proofs.lemmas.List.{take-append-drop}
use Rattle.py_token.specs.Plain.{PToken}
use Rattle.py_syntax.specs.Tree.{Stmts}
use Rattle.py_syntax.specs.Kinds.{bare}
use Rattle.py_syntax.specs.Headers.{marked}
use Rattle.py_syntax.specs.Refusals.{StopsAt, Begins, BeginsWithin}
use Rattle.py_syntax.specs.Statements.{stmts_height, stmts_nesting}
use Rattle.py_syntax.specs.Spelling.{Spells, HEIGHT, NESTING, HasTokens, IsWithin, front}
use Rattle.py_parse.specs.declared.error.DepthKind.{DepthKind}
use Rattle.py_parse.specs.declared.error.DepthKind.TheVariants as depth
use Rattle.py_parse.specs.declared.error.SyntaxError.{SyntaxError}
use Rattle.py_parse.specs.declared.error.SyntaxError.TheVariants as syntax_error
use Rattle.py_parse.specs.Refusal.{IsRefused, IsUnexpected, IsTooDeep, HasDeepSuites, HasDeepExpressions, NestsWithin, line_of}

-- no tree of the list goes past this place
abbrev Stops : List PToken → ℕ → Type 0
Stops ts place =
    StopsAt HasTokens IsWithin (λ (m : Stmts). Spells m ts) (λ (n : ℕ). front n ts) (length ts)
    place

-- ---- a tree of the whole list

-- each front of the list begins it
begins :
    (m : Stmts) (ts : List PToken) → Spells m ts → (n : ℕ)
    → HasTokens m (front n ts ++ drop n (marked (bare ts)))
begins m ts s n =
    (s.0, sym (ap marked s.1 ∙ s.0.2) ∙ sym (take-append-drop n (marked (bare ts))))

-- so the list doesn't stop anywhere
not-stopped :
    (m : Stmts) (ts : List PToken) → Spells m ts → IsWithin m → (place : ℕ) → Stops ts place → ⊥
not-stopped m ts s within place h =
    ⊎_elim
    (λ e. h.no_tree e m s)
    (λ n.
    let i = h.inside in
    h.longest (omega (arith, i, n))
    (m, drop (place + 1) (marked (bare ts)), begins m ts s (place + 1), within))
    (cases_eq place (length ts))

-- the place where a list is too deep
deep :
    (ts : List PToken) (d : DepthKind) (line : ℕ) → IsRefused ts (syntax_error.TooDeep d line)
    → (place : ℕ) × IsTooDeep ts place × (line ≡ line_of ts place)
deep ts depth.Suites line h = (h.0, h.1.0, h.2)
deep ts depth.Expressions line h = (h.0, h.1.0, h.2)

pub not-refused :
    (m : Stmts) (ts : List PToken) (e : SyntaxError) → Spells m ts → stmts_height m ≤ HEIGHT
    → stmts_nesting m ≤ NESTING → IsRefused ts e → e ≡ syntax_error.NoMemory
not-refused m ts (syntax_error.Unexpected line) s low few h =
    absurd (not-stopped m ts s (low, few) h.0 h.1.0)
not-refused m ts (syntax_error.TooDeep d line) s low few h =
    let k = deep ts d line h in absurd (not-stopped m ts s (low, few) k.0 k.1.0)
not-refused m ts syntax_error.NoMemory s low few h = refl

-- ---- one place

take-less :
    {X : Type 0} (xs : List X) (n k : ℕ) → n ≤ k → (zs : List X) × (take k xs ≡ take n xs ++ zs)
take-less xs zero k h = (take k xs, refl)
take-less [] (suc n) zero h = absurd (omega (arith, h))
take-less [] (suc n) (suc k) h = ([], refl)
take-less (x ∷ xs) (suc n) zero h = absurd (omega (arith, h))
take-less (x ∷ xs) (suc n) (suc k) h =
    let r = take-less xs n k (omega (arith, h)) in (r.0, ap (λ t. x ∷ t) r.1)

-- what begins a tree within the limits begins one also when it is shorter
shorter :
    (ts : List PToken) (n k : ℕ) → n ≤ k → BeginsWithin HasTokens IsWithin (front k ts)
    → BeginsWithin HasTokens IsWithin (front n ts)
shorter ts n k h b =
    let r = take-less (marked (bare ts)) n k h in
    let tokens = b.2.1 ∙ ap (λ t. t ++ b.1) r.1 ∙ append_assoc (front n ts) r.0 b.1 in
    (b.0, r.0 ++ b.1, (b.2.0, tokens), b.3)

no-later : (ts : List PToken) (p q : ℕ) → Stops ts p → Stops ts q → p < q → ⊥
no-later ts p q h k l =
    let i = k.inside in
    h.longest (omega (arith, l, i)) (shorter ts (p + 1) q (omega (arith, l)) k.viable)

one-place : (ts : List PToken) (p q : ℕ) → Stops ts p → Stops ts q → p ≡ q
one-place ts p q h k =
    ⊎_elim
    (λ l. absurd (no-later ts p q h k l))
    (λ n. ⊎_elim (λ l. absurd (no-later ts q p k h l)) (λ o. omega (arith, n, o)) (cases_lt q p))
    (cases_lt p q)

-- ---- one kind

-- a list that goes on with no tree goes on with none that is too deep
not-both : (ts : List PToken) (p q : ℕ) → IsUnexpected ts p → IsTooDeep ts q → ⊥
not-both ts p q h k =
    let e : q ≡ p = one-place ts q p k.0 h.0 in
    h.1 (subst (λ n. n < length ts) e k.1) (subst (λ n. Begins HasTokens (front (n + 1) ts)) e k.2)

not-two : (ts : List PToken) (p q : ℕ) → HasDeepSuites ts p → HasDeepExpressions ts q → ⊥
not-two ts p q h k =
    let e : q ≡ p = one-place ts q p k.0.0 h.0.0 in
    let w = subst (λ n. NestsWithin (front (n + 1) ts)) e k.1 in
    let deep = h.1 w.0 w.1 w.2 w.3 in
    let few = w.4 in
    omega (arith, deep, few)

same-line :
    (ts : List PToken) (p q a b : ℕ) → Stops ts p → Stops ts q → a ≡ line_of ts p
    → b ≡ line_of ts q → a ≡ b
same-line ts p q a b s t h k = h ∙ ap (line_of ts) (one-place ts p q s t) ∙ sym k

one-depth :
    (ts : List PToken) (c d : DepthKind) (a b : ℕ) → IsRefused ts (syntax_error.TooDeep c a)
    → IsRefused ts (syntax_error.TooDeep d b)
    → syntax_error.TooDeep c a ≡ syntax_error.TooDeep d b
one-depth ts depth.Suites depth.Suites a b h k =
    ap (λ l. syntax_error.TooDeep depth.Suites l)
    (same-line ts h.0 k.0 a b h.1.0.0 k.1.0.0 h.2 k.2)
one-depth ts depth.Suites depth.Expressions a b h k = absurd (not-two ts h.0 k.0 h.1 k.1)
one-depth ts depth.Expressions depth.Suites a b h k = absurd (not-two ts k.0 h.0 k.1 h.1)
one-depth ts depth.Expressions depth.Expressions a b h k =
    ap (λ l. syntax_error.TooDeep depth.Expressions l)
    (same-line ts h.0 k.0 a b h.1.0.0 k.1.0.0 h.2 k.2)

pub one-refusal :
    (ts : List PToken) (e f : SyntaxError) → e ≢ syntax_error.NoMemory
    → f ≢ syntax_error.NoMemory → IsRefused ts e → IsRefused ts f → e ≡ f
one-refusal ts syntax_error.NoMemory f ne nf h k = absurd (ne refl)
one-refusal ts (syntax_error.Unexpected a) syntax_error.NoMemory ne nf h k = absurd (nf refl)
one-refusal ts (syntax_error.TooDeep c a) syntax_error.NoMemory ne nf h k = absurd (nf refl)
one-refusal ts (syntax_error.Unexpected a) (syntax_error.Unexpected b) ne nf h k =
    ap (λ l. syntax_error.Unexpected l) (same-line ts h.0 k.0 a b h.1.0 k.1.0 h.2 k.2)
one-refusal ts (syntax_error.Unexpected a) (syntax_error.TooDeep d b) ne nf h k =
    let l = deep ts d b k in absurd (not-both ts h.0 l.0 h.1 l.1)
one-refusal ts (syntax_error.TooDeep c a) (syntax_error.Unexpected b) ne nf h k =
    let l = deep ts c a h in absurd (not-both ts k.0 l.0 k.1 l.1)
one-refusal ts (syntax_error.TooDeep c a) (syntax_error.TooDeep d b) ne nf h k =
    one-depth ts c d a b h k
