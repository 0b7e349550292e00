-- Names of data, slash by slash.
use Rattle.std.proofs.Common.{◌≡◌, ◌≢◌, ◌<◌, ℕ, ◌+◌, suc, Bool, true, false, not, ◌&&◌, ◌==◌, cond, if◌then◌else◌, List, [], ◌∷◌, ◌++◌, length, take, drop, codes, Some, None, Bor, refl, sym, ap, ◌∙◌, arith, lit<}
use Rattle.std.specs.List.{position_or_len, before_first, after_first}
use Rattle.std.specs.Str.Pattern.{FindsTextPrefix, StripsPrefix}
use Rattle.std.proofs.lemmas.List.{append_assoc}
use Rattle.std.proofs.lemmas.Bool.{eqb-true, and_parts}
use Rattle.std.proofs.lemmas.Str.Pattern.{IsSplitOnceResult, split_once_first}
use Rattle.cov_step.specs.Names.{once, bare}

abbrev pub is_slash : ℕ → Bool
is_slash b = b == 47

-- ---- one `/` for several

past : (b : ℕ) (bs : List ℕ) (t : Bool) → is_slash b ≡ t → position_or_len is_slash (b ∷ bs) ≡ cond (not t) (1 + position_or_len is_slash bs) 0
past b bs t e = ap (λ (c : Bool). cond (not c) (1 + position_or_len is_slash bs) 0) e

kept : (b c : ℕ) (bs : List ℕ) → is_slash b ≡ false → once (b ∷ c ∷ bs) ≡ b ∷ once (c ∷ bs)
kept b c bs e = ap (λ (t : Bool). if t && c == 47 then once (c ∷ bs) else b ∷ once (c ∷ bs)) e

whole-at : (b : ℕ) (bs : List ℕ) (t : Bool) → is_slash b ≡ t → position_or_len is_slash (b ∷ bs) ≡ suc (length bs) → (position_or_len is_slash bs ≡ length bs → once bs ≡ bs) → once (b ∷ bs) ≡ b ∷ bs
whole-at b bs true e h ih = absurd (omega (arith, past b bs true e, h))
whole-at b [] false e h ih = refl
whole-at b (c ∷ bs) false e h ih = kept b c bs e ∙ ap (λ (k : List ℕ). b ∷ k) (ih (omega (arith, past b (c ∷ bs) false e, h)))

pub once_whole : (bs : List ℕ) → position_or_len is_slash bs ≡ length bs → once bs ≡ bs
once_whole [] h = refl
once_whole (b ∷ bs) h = whole-at b bs (is_slash b) refl h (once_whole bs)

cut-at : (b : ℕ) (bs : List ℕ) (t : Bool) → is_slash b ≡ t → position_or_len is_slash (b ∷ bs) < suc (length bs)
    → (position_or_len is_slash bs < length bs → once bs ≡ before_first is_slash bs ++ once (47 ∷ after_first is_slash bs))
    → once (b ∷ bs) ≡ before_first is_slash (b ∷ bs) ++ once (47 ∷ after_first is_slash (b ∷ bs))
cut-at b bs true e h ih =
    let here : position_or_len is_slash (b ∷ bs) ≡ 0 = past b bs true e in
    ap (λ (n : ℕ). once (n ∷ bs)) (eqb-true b 47 e)
    ∙ ap (λ (n : ℕ). take n (b ∷ bs) ++ once (47 ∷ drop (n + 1) (b ∷ bs))) (sym here)
cut-at b [] false e h ih = absurd (omega (arith, past b [] false e, h))
cut-at b (c ∷ bs) false e h ih =
    let later : position_or_len is_slash (b ∷ c ∷ bs) ≡ suc (position_or_len is_slash (c ∷ bs)) = omega (arith, past b (c ∷ bs) false e) in
    kept b c bs e
    ∙ ap (λ (k : List ℕ). b ∷ k) (ih (omega (arith, later, h)))
    ∙ ap (λ (n : ℕ). b ∷ (take (position_or_len is_slash (c ∷ bs)) (c ∷ bs) ++ once (47 ∷ drop n (b ∷ c ∷ bs)))) (past_one (position_or_len is_slash (c ∷ bs)))
    ∙ ap (λ (n : ℕ). take n (b ∷ c ∷ bs) ++ once (47 ∷ drop (n + 1) (b ∷ c ∷ bs))) (sym later)
  where
    past_one : (n : ℕ) → suc (n + 1) ≡ suc n + 1
    past_one n = omega arith

pub once_cut : (bs : List ℕ) → position_or_len is_slash bs < length bs → once bs ≡ before_first is_slash bs ++ once (47 ∷ after_first is_slash bs)
once_cut [] h = absurd (omega (arith, h))
once_cut (b ∷ bs) h = cut-at b bs (is_slash b) refl h (once_cut bs)

-- what a split at the first `/` says
pub once_unsplit : (bs : List ℕ) → IsSplitOnceResult 47 bs None → once bs ≡ bs
once_unsplit bs h = once_whole bs (split_once_first 47 bs None h (lit< tt))

pub once_split : (bs : List ℕ) (x : Bor (List ℕ) × Bor (List ℕ)) → IsSplitOnceResult 47 bs (Some x) → once bs ≡ x.0.now ++ once (47 ∷ x.1.now)
once_split bs x h =
    let s = split_once_first 47 bs (Some x) h (lit< tt) in
    once_cut bs s.0 ∙ ap (λ (k : List ℕ). k ++ once (47 ∷ after_first is_slash bs)) (sym s.1) ∙ ap (λ (k : List ℕ). x.0.now ++ once (47 ∷ k)) (sym s.2)

-- further `/` behind one
pub once_again : (bs : List ℕ) → once (47 ∷ 47 ∷ bs) ≡ once (47 ∷ bs)
once_again bs = refl

last-at : (c : ℕ) (bs : List ℕ) (t : Bool) → is_slash c ≡ t → ((rest : List ℕ) → c ∷ bs ≢ 47 ∷ rest) → 47 ∷ once (c ∷ bs) ≡ once (47 ∷ c ∷ bs)
last-at c bs true e h = absurd (h bs (ap (λ (n : ℕ). n ∷ bs) (eqb-true c 47 e)))
last-at c bs false e h = ap (λ (t : Bool). if t then once (c ∷ bs) else 47 ∷ once (c ∷ bs)) (sym e)

pub once_last : (bs : List ℕ) → ((rest : List ℕ) → bs ≢ 47 ∷ rest) → 47 ∷ once bs ≡ once (47 ∷ bs)
once_last [] h = refl
once_last (c ∷ bs) h = last-at c bs (is_slash c) refl h

-- ---- without leading `./`

bare-at : (b c : ℕ) (bs : List ℕ) (t : Bool) → (b == 46 && c == 47) ≡ t → ((rest : List ℕ) → b ∷ c ∷ bs ≢ 46 ∷ 47 ∷ rest) → bare (b ∷ c ∷ bs) ≡ b ∷ c ∷ bs
bare-at b c bs true e h =
    let both = and_parts (b == 46) (c == 47) e in
    absurd (h bs (ap (λ (n : ℕ). n ∷ c ∷ bs) (eqb-true b 46 both.0) ∙ ap (λ (n : ℕ). 46 ∷ n ∷ bs) (eqb-true c 47 both.1)))
bare-at b c bs false e h = ap (λ (t : Bool). if t then bare bs else b ∷ c ∷ bs) e

pub bare_kept : (bs : List ℕ) → ((rest : List ℕ) → bs ≢ 46 ∷ 47 ∷ rest) → bare bs ≡ bs
bare_kept [] h = refl
bare_kept (b ∷ []) h = refl
bare_kept (b ∷ c ∷ bs) h = bare-at b c bs (b == 46 && c == 47) refl h

pub bare_stripped : (bs : List ℕ) (x : Bor (List ℕ)) → StripsPrefix (FindsTextPrefix (codes "./")) bs x.now → bare bs ≡ bare x.now
bare_stripped bs x (n, found, is, len) = ap bare found.1 ∙ ap bare (sym is)

pub stripped_shorter : (bs : List ℕ) (x : Bor (List ℕ)) → StripsPrefix (FindsTextPrefix (codes "./")) bs x.now → length x.now < length bs
stripped_shorter bs x (n, found, is, len) = omega (arith, found.0, len)

-- what a turn of the loop keeps
pub once_onward : (taken before after rest tail middle pushed whole : List ℕ) → middle ≡ taken ++ before → pushed ≡ middle ++ 47 ∷ []
    → once rest ≡ before ++ once (47 ∷ after) → 47 ∷ once tail ≡ once (47 ∷ after) → taken ++ once rest ≡ whole → pushed ++ once tail ≡ whole
once_onward taken before after rest tail middle pushed whole cut slash split behind so =
    ap (λ (k : List ℕ). k ++ once tail) (slash ∙ ap (λ (k : List ℕ). k ++ 47 ∷ []) cut)
    ∙ append_assoc (taken ++ before) (47 ∷ []) (once tail)
    ∙ append_assoc taken before (47 ∷ once tail)
    ∙ ap (λ (k : List ℕ). taken ++ (before ++ k)) behind
    ∙ ap (λ (k : List ℕ). taken ++ k) (sym split)
    ∙ so
