-- What patterns leave of a path.
use Rattle.std.proofs.Common.{◌≡◌, ℕ, ◌+◌, ◌-◌, ◌<◌, ◌≤◌, true, false, cond, List, [], ◌∷◌, length, drop, Option, Some, None, refl, ap, ◌∙◌, arith}
use Rattle.std.specs.Prelude.{◌&&◌, nat_lt, is_some}
use Rattle.std.specs.Option.{option_or, option_map}
use Rattle.std.proofs.lemmas.Bool.{lt-ltb, le-ltb, and_right}
use Rattle.cov_data.specs.DataSet.{Text}
use Rattle.cov_combine.specs.Aliases.{fits, left_after, after_star}
use Rattle.cov_combine.proofs.Parts.{drop_at}

pub left_after-fits : (ps cs : List Text) → fits ps cs ≡ true → length ps < length cs → left_after ps cs ≡ Some (drop (length ps) cs)
left_after-fits ps cs fit short =
    ap (λ b. cond (b && nat_lt (length ps) (length cs)) (Some (drop (length ps) cs)) None) fit
    ∙ ap (λ b. cond b (Some (drop (length ps) cs)) None) (lt-ltb (length ps) (length cs) short)

pub option_or-some : {X : Type 0} (o p : Option X) → is_some o ≡ true → option_or o p ≡ o
option_or-some None p h = cc
option_or-some (Some x) p h = refl

pub option_or-none : {X : Type 0} (o p : Option X) → is_some o ≡ false → option_or o p ≡ p
option_or-none None p h = refl
option_or-none (Some x) p h = cc

pub is_some-option_map : {X Y : Type 0} (f : X → Y) (o : Option X) → is_some (option_map f o) ≡ is_some o
is_some-option_map f None = refl
is_some-option_map f (Some x) = refl

-- one leading component more goes to the `*`
pub after_star-at : (ps cs : List Text) (i : ℕ) → 1 ≤ i → i ≤ length cs → after_star ps (drop (i - 1) cs) ≡ option_or (left_after ps (drop i cs)) (after_star ps (drop i cs))
after_star-at ps cs i low high =
    let at : i - 1 + 1 ≡ i = omega arith in
    ap (after_star ps) (drop_at cs (i - 1) [] (omega arith)) ∙ ap (λ k. option_or (left_after ps (drop k cs)) (after_star ps (drop k cs))) at

-- a path of one component leaves none
pub after_star-short : (ps cs : List Text) → length cs ≤ 1 → after_star ps cs ≡ None
after_star-short ps [] h = refl
after_star-short ps (c ∷ []) h = ap (λ o. option_or o None) (ap (λ b. cond b (Some (drop (length ps) [])) None) (and_right (fits ps []) (nat_lt (length ps) 0) (le-ltb (length ps) 0 (omega arith))))
after_star-short ps (c ∷ d ∷ cs) h = absurd (omega arith)
