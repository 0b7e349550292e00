-- Whether the items of a list are targets, item by item.
use Rattle.std.proofs.Common.{◌≡◌, ℕ, ◌+◌, ◌<◌, ◌≤◌, Bool, true, false, ◌&&◌, List, drop, length, get_or, sym, ap, ◌∙◌, drop-cons, add-one}
use Rattle.std.proofs.Math.ListN.{drop_of_length-le}
use Rattle.py_syntax.specs.declared.expr.Expr.{Expr as Node}
use Rattle.py_syntax.specs.Normal.{is_target, are_targets}
use Rattle.py_syntax.specs.View.{plain_expr, plain_exprs}

item_is : (items : List Node) (i : ℕ) (d : Node) → i < length items → are_targets (plain_exprs (drop i items)) ≡ (is_target (plain_expr (get_or items i d)) && are_targets (plain_exprs (drop (i + 1) items)))
item_is items i d lt = ap (λ (xs : List Node). are_targets (plain_exprs xs)) (drop-cons items i d lt) ∙ ap (λ (n : ℕ). is_target (plain_expr (get_or items i d)) && are_targets (plain_exprs (drop n items))) (sym (add-one i))

pub an_item : (items : List Node) (i : ℕ) (e : Node) → i < length items → e ≡ get_or items i e → true ≡ is_target (plain_expr e) → are_targets (plain_exprs (drop i items)) ≡ are_targets (plain_exprs items) → are_targets (plain_exprs (drop (i + 1) items)) ≡ are_targets (plain_exprs items)
an_item items i e lt is yes_it h = ap (λ (b : Bool). b && are_targets (plain_exprs (drop (i + 1) items))) (yes_it ∙ ap (λ (x : Node). is_target (plain_expr x)) is) ∙ sym (item_is items i e lt) ∙ h

pub no_item : (items : List Node) (i : ℕ) (e : Node) → i < length items → e ≡ get_or items i e → false ≡ is_target (plain_expr e) → are_targets (plain_exprs (drop i items)) ≡ are_targets (plain_exprs items) → false ≡ are_targets (plain_exprs items)
no_item items i e lt is not_it h = ap (λ (b : Bool). b && are_targets (plain_exprs (drop (i + 1) items))) (not_it ∙ ap (λ (x : Node). is_target (plain_expr x)) is) ∙ sym (item_is items i e lt) ∙ h

pub no_more : (items : List Node) (i : ℕ) → length items ≤ i → are_targets (plain_exprs (drop i items)) ≡ are_targets (plain_exprs items) → true ≡ are_targets (plain_exprs items)
no_more items i le h = sym (ap (λ (xs : List Node). are_targets (plain_exprs xs)) (drop_of_length-le items le)) ∙ h
