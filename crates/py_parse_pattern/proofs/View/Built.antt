-- Patterns made of others, and their heights.
use Rattle.std.proofs.Common.{◌≡◌, ℕ, suc, ◌+◌, max, nat_eq, Bool, true, false, List, [], ◌∷◌, ◌++◌, length, refl, sym, ap, ◌∙◌, arith}
use Rattle.std.proofs.lemmas.Bool.{ne_eqb}
use Rattle.py_syntax.specs.Tree.{Pattern, sequence, p_or, Patterns, no_patterns, patterns}
use Rattle.py_syntax.specs.Normal.{pattern_height, pattern_heights}
use Rattle.py_parse_pattern.specs.Machine.{snoc, is_some, is_underscore, joined}
use Rattle.std.proofs.Common.{not}
use Rattle.std.specs.Prelude.{◌==◌}
use Rattle.std.specs.Prelude.{encode_utf8_all}
use Rattle.std.specs.Str.{chars}
use Rattle.std.specs.Cmp.Lexicographic.{same_text, other_text}
use lib.Pointwise.{pointwise}
use Rattle.std.specs.Global.{Vec}
use Rattle.py_syntax.specs.declared.pattern.Pattern as node
use Rattle.py_syntax.specs.declared.pattern.Pattern.TheVariants as variant
use Rattle.py_parse_pattern.proofs.Sound.{is_wild}
use Rattle.py_syntax.specs.declared.pattern.Pattern.{Pattern as Node}
use Rattle.py_syntax.specs.View.{plain_pattern, plain_patterns}
use Rattle.py_syntax.specs.declared.pattern.Brackets.{Brackets}
use Rattle.py_parse_pattern.specs.declared.nodes.Measured.{Measured}
use Rattle.py_parse_pattern.specs.declared.nodes.Many.{Many}
use Rattle.py_parse_pattern.specs.Views.{view_measured, IsMeasured, view_many, AreMeasured, Makes}
use Rattle.py_parse_pattern.proofs.Least.{heights_snoc}

pub plain_snoc : (ps : List Node) (p : Node) → plain_patterns (ps ++ p ∷ []) ≡ snoc (plain_patterns ps) (plain_pattern p)
plain_snoc [] p = refl
plain_snoc (q ∷ qs) p = ap (patterns (plain_pattern q)) (plain_snoc qs p)

pub plain_some : (ps : List Node) → not (length ps == 0) ≡ is_some (plain_patterns ps)
plain_some [] = refl
plain_some (p ∷ ps) = ap not (ne_eqb (suc (length ps)) 0 (λ e. absurd (omega arith)))

-- the text `_`
pub same_underscore : (name bytes : List ℕ) → bytes ≡ encode_utf8_all name → chars bytes ≡ name → pointwise nat_eq bytes (95 ∷ []) ≡ is_underscore name
unfolding lib.Utf8.encode chars
same_underscore name bytes encoded decoded = go (pointwise nat_eq bytes (95 ∷ [])) refl
  where
    is_it : (b : Bool) → is_underscore name ≡ b → pointwise nat_eq bytes (95 ∷ []) ≡ false → false ≡ b
    is_it false is differ = refl
    is_it true is differ = absurd (other_text bytes (95 ∷ []) (sym differ) (encoded ∙ ap encode_utf8_all (is_wild name is)))

    go : (b : Bool) → pointwise nat_eq bytes (95 ∷ []) ≡ b → b ≡ is_underscore name
    go true is = let same = same_text bytes (95 ∷ []) (sym is) in let it : name ≡ 95 ∷ [] = sym decoded ∙ ap chars same in sym (ap is_underscore it)
    go false is = is_it (is_underscore name) refl is

pub joined_some : (ps : Patterns) (p : Pattern) → is_some ps ≡ true → joined ps p ≡ p_or (snoc ps p)
joined_some no_patterns p h = absurd cc
joined_some (patterns q qs) p h = refl

-- the height after a further pattern
pub pushed_height : (m n : Many) (t : Measured) → AreMeasured m → IsMeasured t → view_many n ≡ snoc (view_many m) (view_measured t) → n.height ≡ max m.height t.height → AreMeasured n
pushed_height m n t are is same height =
    let h = heights_snoc (view_many m) (view_measured t) in
    let e = ap pattern_heights same in
    omega arith

plain_sequence : (b : Brackets) (ps : Vec Node) (c : Bool) → plain_pattern (variant.Sequence b ps c) ≡ sequence b (plain_patterns ps.items) c
plain_sequence b ps c = search node.the_lemmas

plain_or : (ps : Vec Node) → plain_pattern (variant.Or ps) ≡ p_or (plain_patterns ps.items)
plain_or ps = search node.the_lemmas

pub makes_sequence : (b : Brackets) (m n : Many) (t : Measured) → AreMeasured m → IsMeasured t → view_many n ≡ snoc (view_many m) (view_measured t) → n.height ≡ max m.height t.height → Makes (sequence b (snoc (view_many m) (view_measured t)) false) (record { pattern = variant.Sequence b n.patterns false; height = n.height + 1 })
makes_sequence b m n t are is same height =
    let all = pushed_height m n t are is same height in
    let e = ap pattern_heights same in
    record { is = plain_sequence b n.patterns false ∙ ap (λ (x : Patterns). sequence b x false) same; height = omega arith }

pub makes_joined : (m n : Many) (t : Measured) → is_some (view_many m) ≡ true → AreMeasured m → IsMeasured t → view_many n ≡ snoc (view_many m) (view_measured t) → n.height ≡ max m.height t.height → Makes (joined (view_many m) (view_measured t)) (record { pattern = variant.Or n.patterns; height = n.height + 1 })
makes_joined m n t some are is same height =
    let all = pushed_height m n t are is same height in
    let e = ap pattern_heights same in
    let j = joined_some (view_many m) (view_measured t) some in
    let k = ap pattern_height j in
    record { is = plain_or n.patterns ∙ ap p_or same ∙ sym j; height = omega arith }
