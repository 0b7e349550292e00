-- The names in each form of a target and of a pattern, by its parts as the code holds them.
use Rattle.std.specs.Prelude.{Box}
use Rattle.std.proofs.Common.{◌≡◌, List, [], ◌∷◌, ◌++◌, Bool, Vec, Global, sym, ap, ◌∙◌}
use Rattle.py_syntax.specs.declared.expr.Expr.{Expr as Node}
use Rattle.py_syntax.specs.declared.expr.Expr.TheVariants as node_variant
use Rattle.py_syntax.specs.declared.expr.Pair.{Pair}
use Rattle.py_syntax.specs.declared.pattern.Brackets.{Brackets}
use Rattle.py_syntax.specs.declared.pattern.Constant.{Constant}
use Rattle.py_syntax.specs.declared.pattern.Pattern.{Pattern}
use Rattle.py_syntax.specs.declared.pattern.Pattern as node
use Rattle.py_syntax.specs.declared.pattern.Pattern.TheVariants as variant
use Rattle.py_syntax.specs.Names.{pattern_names, patterns_names}
use Rattle.py_syntax.specs.Tree.{Text, literal, capture, wild, member, sequence, p_or, p_as, p_paren}
use Rattle.py_syntax.specs.View.{plain_constant, plain_expr, plain_exprs, plain_pattern, plain_patterns}
use Rattle.py_scope.specs.declared.occurrence.Occurrence.{Occurrence}
use Rattle.py_scope.specs.declared.occurrence.Occurrence.TheVariants.{Uses, Assigns}
use Rattle.py_scope.specs.Occurrences.{in_expr, in_target, in_targets, in_pattern, in_patterns}
use Rattle.py_scope.proofs.Nodes.{plain-name, plain-tuple, plain-list, plain-dict, plain-paren}

abbrev targeted : Node → List Occurrence
targeted e = in_target (plain_expr e)

pub target_name-is : (e : Node) (x : Text) → e ≡ node_variant.Name x → targeted e ≡ Assigns x ∷ []
target_name-is e x is = ap targeted is ∙ ap in_target (plain-name x)

pub target_tuple-is : (e : Node) (es : Vec Node Global) (c : Bool) (xs : List Node) → e ≡ node_variant.Tuple es c → xs ≡ es.items → targeted e ≡ in_targets (plain_exprs xs)
target_tuple-is e es c xs is p = ap targeted is ∙ ap in_target (plain-tuple es c) ∙ ap (λ (k : List Node). in_targets (plain_exprs k)) (sym p)

pub target_list-is : (e : Node) (es : Vec Node Global) (c : Bool) (xs : List Node) → e ≡ node_variant.List es c → xs ≡ es.items → targeted e ≡ in_targets (plain_exprs xs)
target_list-is e es c xs is p = ap targeted is ∙ ap in_target (plain-list es c) ∙ ap (λ (k : List Node). in_targets (plain_exprs k)) (sym p)

pub target_paren-is : (e : Node) (a : Box Node Global) (x : Node) → e ≡ node_variant.Paren a → x ≡ a.value → targeted e ≡ targeted x
target_paren-is e a x is p = ap targeted is ∙ ap in_target (plain-paren a) ∙ ap targeted (sym p)

pub target_dict-is : (e : Node) (ps : Vec Pair Global) (c : Bool) → e ≡ node_variant.Dict ps c → targeted e ≡ in_expr (plain_expr e)
target_dict-is e ps c is = ap targeted is ∙ ap in_target (plain-dict ps c) ∙ sym (ap in_expr (plain-dict ps c)) ∙ sym (ap (λ k. in_expr (plain_expr k)) is)

-- ---- patterns

abbrev matched : Pattern → List Occurrence
matched p = in_pattern (plain_pattern p)

abbrev caught : Pattern → List Text
caught p = pattern_names (plain_pattern p)

plain-literal : (m : Bool) (d : Constant) → plain_pattern (variant.Literal m d) ≡ literal m (plain_constant d)
plain-literal m d = search node.the_lemmas

pub matched_literal-is : (e : Pattern) (m : Bool) (d : Constant) → e ≡ variant.Literal m d → matched e ≡ []
matched_literal-is e m d is = ap matched is ∙ ap in_pattern (plain-literal m d)

pub caught_literal-is : (e : Pattern) (m : Bool) (d : Constant) → e ≡ variant.Literal m d → caught e ≡ []
caught_literal-is e m d is = ap caught is ∙ ap pattern_names (plain-literal m d)

plain-capture : (x : Text) → plain_pattern (variant.Capture x) ≡ capture x
plain-capture x = search node.the_lemmas

pub matched_capture-is : (e : Pattern) (x : Text) → e ≡ variant.Capture x → matched e ≡ Assigns x ∷ []
matched_capture-is e x is = ap matched is ∙ ap in_pattern (plain-capture x)

pub caught_capture-is : (e : Pattern) (x : Text) → e ≡ variant.Capture x → caught e ≡ x ∷ []
caught_capture-is e x is = ap caught is ∙ ap pattern_names (plain-capture x)

plain-wild : plain_pattern variant.Wild ≡ wild
plain-wild = search node.the_lemmas

pub matched_wild-is : (e : Pattern) → e ≡ variant.Wild → matched e ≡ []
matched_wild-is e is = ap matched is ∙ ap in_pattern plain-wild

pub caught_wild-is : (e : Pattern) → e ≡ variant.Wild → caught e ≡ []
caught_wild-is e is = ap caught is ∙ ap pattern_names plain-wild

plain-member : (m : Text) (x : Text) → plain_pattern (variant.Member m x) ≡ member m x
plain-member m x = search node.the_lemmas

pub matched_member-is : (e : Pattern) (m : Text) (x : Text) → e ≡ variant.Member m x → matched e ≡ Uses m ∷ []
matched_member-is e m x is = ap matched is ∙ ap in_pattern (plain-member m x)

pub caught_member-is : (e : Pattern) (m : Text) (x : Text) → e ≡ variant.Member m x → caught e ≡ []
caught_member-is e m x is = ap caught is ∙ ap pattern_names (plain-member m x)

plain-sequence : (b : Brackets) (ps : Vec Pattern Global) (c : Bool) → plain_pattern (variant.Sequence b ps c) ≡ sequence b (plain_patterns ps.items) c
plain-sequence b ps c = search node.the_lemmas

pub matched_sequence-is : (e : Pattern) (b : Brackets) (ps : Vec Pattern Global) (c : Bool) (xs : List Pattern) → e ≡ variant.Sequence b ps c → xs ≡ ps.items → matched e ≡ in_patterns (plain_patterns xs)
matched_sequence-is e b ps c xs is p = ap matched is ∙ ap in_pattern (plain-sequence b ps c) ∙ ap (λ (k : List Pattern). in_patterns (plain_patterns k)) (sym p)

pub caught_sequence-is : (e : Pattern) (b : Brackets) (ps : Vec Pattern Global) (c : Bool) (xs : List Pattern) → e ≡ variant.Sequence b ps c → xs ≡ ps.items → caught e ≡ patterns_names (plain_patterns xs)
caught_sequence-is e b ps c xs is p = ap caught is ∙ ap pattern_names (plain-sequence b ps c) ∙ ap (λ (k : List Pattern). patterns_names (plain_patterns k)) (sym p)

plain-p_or : (ps : Vec Pattern Global) → plain_pattern (variant.Or ps) ≡ p_or (plain_patterns ps.items)
plain-p_or ps = search node.the_lemmas

pub matched_p_or-is : (e : Pattern) (ps : Vec Pattern Global) (xs : List Pattern) → e ≡ variant.Or ps → xs ≡ ps.items → matched e ≡ in_patterns (plain_patterns xs)
matched_p_or-is e ps xs is p = ap matched is ∙ ap in_pattern (plain-p_or ps) ∙ ap (λ (k : List Pattern). in_patterns (plain_patterns k)) (sym p)

pub caught_p_or-is : (e : Pattern) (ps : Vec Pattern Global) (xs : List Pattern) → e ≡ variant.Or ps → xs ≡ ps.items → caught e ≡ patterns_names (plain_patterns xs)
caught_p_or-is e ps xs is p = ap caught is ∙ ap pattern_names (plain-p_or ps) ∙ ap (λ (k : List Pattern). patterns_names (plain_patterns k)) (sym p)

plain-p_as : (a : Box Pattern Global) (x : Text) → plain_pattern (variant.As a x) ≡ p_as (plain_pattern a.value) x
plain-p_as a x = search node.the_lemmas

pub matched_p_as-is : (e : Pattern) (a : Box Pattern Global) (x : Text) (y : Pattern) → e ≡ variant.As a x → y ≡ a.value → matched e ≡ matched y ++ Assigns x ∷ []
matched_p_as-is e a x y is p = ap matched is ∙ ap in_pattern (plain-p_as a x) ∙ ap (λ (k : Pattern). matched k ++ Assigns x ∷ []) (sym p)

pub caught_p_as-is : (e : Pattern) (a : Box Pattern Global) (x : Text) (y : Pattern) → e ≡ variant.As a x → y ≡ a.value → caught e ≡ caught y ++ x ∷ []
caught_p_as-is e a x y is p = ap caught is ∙ ap pattern_names (plain-p_as a x) ∙ ap (λ (k : Pattern). caught k ++ x ∷ []) (sym p)

plain-p_paren : (a : Box Pattern Global) → plain_pattern (variant.Paren a) ≡ p_paren (plain_pattern a.value)
plain-p_paren a = search node.the_lemmas

pub matched_p_paren-is : (e : Pattern) (a : Box Pattern Global) (y : Pattern) → e ≡ variant.Paren a → y ≡ a.value → matched e ≡ matched y
matched_p_paren-is e a y is p = ap matched is ∙ ap in_pattern (plain-p_paren a) ∙ ap (λ (k : Pattern). matched k) (sym p)

pub caught_p_paren-is : (e : Pattern) (a : Box Pattern Global) (y : Pattern) → e ≡ variant.Paren a → y ≡ a.value → caught e ≡ caught y
caught_p_paren-is e a y is p = ap caught is ∙ ap pattern_names (plain-p_paren a) ∙ ap (λ (k : Pattern). caught k) (sym p)
