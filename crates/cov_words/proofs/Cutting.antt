-- Where the first `=` of a word is, and whether an option is given.
use Rattle.std.proofs.Common.{◌≡◌, ◌<◌, ℕ, ◌+◌, suc, Bool, true, false, not, ◌||◌, cond, List, [], ◌∷◌, length, take, drop, Option, Some, None, option_map, Bor, refl, sym, ap, ◌∙◌, arith, lit<}
use Rattle.std.specs.Option.{is_some}
use Rattle.std.specs.List.{list_any, position_or_len, before_first, after_first}
use Rattle.std.proofs.lemmas.Str.Pattern.{IsSplitOnceResult, split_once_first}
use Rattle.cov_words.specs.declared.options.OptionName.{OptionName}
use Rattle.cov_words.specs.declared.values.Value.{Value}
use Rattle.cov_words.specs.Values.{Word}
use Rattle.cov_words.specs.Options.{option_named, is_same, value_in, is_given}
use Rattle.cov_words.specs.Reading.{nowhere, is_equals, cut, found_before, found_cut, found_whole, found}
use Rattle.cov_words.specs.Plain.{value_view, given_of}

none_in : (b : ℕ) (bs : Word) (e : Bool) → is_equals b ≡ e → position_or_len is_equals (b ∷ bs) ≡ suc (length bs) → (position_or_len is_equals bs ≡ length bs → cut bs ≡ None) → cut (b ∷ bs) ≡ None
none_in b bs true e h ih =
    let here : position_or_len is_equals (b ∷ bs) ≡ 0 = ap (λ (c : Bool). cond (not c) (1 + position_or_len is_equals bs) 0) e in
    absurd (omega (arith, here, h))
none_in b bs false e h ih =
    let past : position_or_len is_equals (b ∷ bs) ≡ 1 + position_or_len is_equals bs = ap (λ (c : Bool). cond (not c) (1 + position_or_len is_equals bs) 0) e in
    let later : position_or_len is_equals (b ∷ bs) ≡ suc (position_or_len is_equals bs) = omega (arith, past) in
    ap (λ (c : Bool). cond {A = Option (Word × Word)} c (Some ([], bs)) (option_map (λ p. (b ∷ p.0, p.1)) (cut bs))) e
    ∙ ap (option_map (λ (p : Word × Word). (b ∷ p.0, p.1))) (ih (omega (arith, later, h)))

pub cut_nowhere : (w : Word) → position_or_len is_equals w ≡ length w → cut w ≡ None
cut_nowhere [] h = refl
cut_nowhere (b ∷ bs) h = none_in b bs (is_equals b) refl h (cut_nowhere bs)

past_one : (n : ℕ) → suc (n + 1) ≡ suc n + 1
past_one n = omega arith

some_in : (b : ℕ) (bs : Word) (e : Bool) → is_equals b ≡ e → position_or_len is_equals (b ∷ bs) < suc (length bs) → (position_or_len is_equals bs < length bs → cut bs ≡ Some (before_first is_equals bs, after_first is_equals bs)) → cut (b ∷ bs) ≡ Some (before_first is_equals (b ∷ bs), after_first is_equals (b ∷ bs))
some_in b bs true e h ih =
    let here : position_or_len is_equals (b ∷ bs) ≡ 0 = ap (λ (c : Bool). cond (not c) (1 + position_or_len is_equals bs) 0) e in
    ap (λ (c : Bool). cond {A = Option (Word × Word)} c (Some ([], bs)) (option_map (λ p. (b ∷ p.0, p.1)) (cut bs))) e
    ∙ ap (λ (n : ℕ). Some (take n (b ∷ bs), drop (n + 1) (b ∷ bs))) (sym here)
some_in b bs false e h ih =
    let past : position_or_len is_equals (b ∷ bs) ≡ 1 + position_or_len is_equals bs = ap (λ (c : Bool). cond (not c) (1 + position_or_len is_equals bs) 0) e in
    let later : position_or_len is_equals (b ∷ bs) ≡ suc (position_or_len is_equals bs) = omega (arith, past) in
    ap (λ (c : Bool). cond {A = Option (Word × Word)} c (Some ([], bs)) (option_map (λ p. (b ∷ p.0, p.1)) (cut bs))) e
    ∙ ap (option_map (λ (p : Word × Word). (b ∷ p.0, p.1))) (ih (omega (arith, later, h)))
    ∙ ap (λ (n : ℕ). Some (b ∷ before_first is_equals bs, drop n (b ∷ bs))) (past_one (position_or_len is_equals bs))
    ∙ ap (λ (n : ℕ). Some (take n (b ∷ bs), drop (n + 1) (b ∷ bs))) (sym later)

pub cut_there : (w : Word) → position_or_len is_equals w < length w → cut w ≡ Some (before_first is_equals w, after_first is_equals w)
cut_there [] h = absurd (omega (arith, h))
cut_there (b ∷ bs) h = some_in b bs (is_equals b) refl h (cut_there bs)

pub split_none : (w : Word) (r : Option (Bor Word × Bor Word)) → IsSplitOnceResult 61 w r → r ≡ None → cut w ≡ None
split_none w None h is = cut_nowhere w (split_once_first 61 w None h (lit< tt))
split_none w (Some x) h is = cc

pub split_some : (w : Word) (x : Bor Word × Bor Word) → IsSplitOnceResult 61 w (Some x) → cut w ≡ Some (x.0.now, x.1.now)
split_some w x h =
    let s = split_once_first 61 w (Some x) h (lit< tt) in
    cut_there w s.0 ∙ ap (λ (k : Word). Some (k, after_first is_equals w)) (sym s.1) ∙ ap (λ (t : Word). Some (x.0.now, t)) (sym s.2)

-- a word that is no option's spelling
pub found_in_parts : (w k t : Word) → option_named w ≡ None → cut w ≡ Some (k, t) → found w ≡ found_before (option_named k) t
found_in_parts w k t none is = ap (λ (o : Option OptionName). found_whole o w) none ∙ ap found_cut is

pub found_nowhere : (w : Word) → option_named w ≡ None → cut w ≡ None → found w ≡ nowhere
found_nowhere w none is = ap (λ (o : Option OptionName). found_whole o w) none ∙ ap found_cut is

given_in : (o : OptionName) (x : OptionName × Value) (g : List (OptionName × Value)) (b : Bool) → (list_any (λ y. is_same o y.0) g ≡ is_given o (given_of g)) → (b || list_any (λ (y : OptionName × Value). is_same o y.0) g) ≡ is_some (cond b (Some (value_view x.1)) (value_in o (given_of g)))
given_in o x g true ih = refl
given_in o x g false ih = ih

pub given_any : (o : OptionName) (g : List (OptionName × Value)) → list_any (λ y. is_same o y.0) g ≡ is_given o (given_of g)
given_any o [] = refl
given_any o (x ∷ g) = given_in o x g (is_same o x.0) (given_any o g)
