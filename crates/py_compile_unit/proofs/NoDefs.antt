-- Statements in which no `def` stands.
use Rattle.std.proofs.Common.{◌≡◌, ℕ, List, [], ◌++◌, Vec, Global, inl, inr, ◌⊎◌, refl, ap, sym, ◌∙◌}
use Rattle.std.proofs.lemmas.List.{append-nil}
use Rattle.std.specs.Prelude.{Option, option_map}
use Rattle.py_operator.specs.declared.operator.BinOp.{BinOp}
use Rattle.py_syntax.specs.declared.expr.Expr.{Expr}
use Rattle.py_syntax.specs.declared.stmt.Alias.{Alias}
use Rattle.py_syntax.specs.declared.stmt.StmtKind.{StmtKind as KindNode}
use Rattle.py_syntax.specs.declared.stmt.StmtKind as kind_
use Rattle.py_syntax.specs.Tree.{Text, StmtKind, expr, assign, aug_assign, pass, break, continue, return, raise, assert, global, import, from}
use Rattle.py_syntax.specs.View.{plain_kind, plain_expr, plain_exprs, plain_aliases}
use Rattle.py_compile.specs.Definitions.{Definition, definitions_in}

-- the forms of them
abbrev pub NoDef : KindNode → Type 0
NoDef k =
    ((e : Expr) × (k ≡ kind_.Expr e)) ⊎ (((ts : Vec Expr Global) × (e : Expr) × (k ≡ kind_.Assign ts e))
    ⊎ (((p : Expr) × (op : BinOp) × (e : Expr) × (k ≡ kind_.AugAssign p op e)) ⊎ ((k ≡ kind_.Pass) ⊎ ((k ≡ kind_.Break) ⊎ ((k ≡ kind_.Continue)
    ⊎ (((e : Option Expr) × (k ≡ kind_.Return e)) ⊎ (((e : Option Expr) × (k ≡ kind_.Raise e)) ⊎ (((e : Expr) × (w : Option Expr) × (k ≡ kind_.Assert e w))
    ⊎ (((xs : Vec Text Global) × (k ≡ kind_.Global xs)) ⊎ (((xs : Vec Alias Global) × (k ≡ kind_.Import xs)) ⊎ ((m : Text) × (xs : Vec Alias Global) × (k ≡ kind_.From m xs))))))))))))

nothing : (now : List Definition) (l : ℕ) (k form : KindNode) (plain : StmtKind) → k ≡ form → plain_kind form ≡ plain → definitions_in l plain ≡ [] → now ≡ now ++ definitions_in l (plain_kind k)
nothing now l k form plain is e none = sym (append-nil now) ∙ ap (λ ds. now ++ ds) (sym (ap (λ q. definitions_in l (plain_kind q)) is ∙ ap (definitions_in l) e ∙ none))

pub no_def : (now : List Definition) (l : ℕ) (k : KindNode) → NoDef k → now ≡ now ++ definitions_in l (plain_kind k)
no_def now l k (inl (e, is)) = nothing now l k (kind_.Expr e) (expr (plain_expr e)) is (search kind_.the_lemmas) refl
no_def now l k (inr (inl (ts, e, is))) = nothing now l k (kind_.Assign ts e) (assign (plain_exprs ts.items) (plain_expr e)) is (search kind_.the_lemmas) refl
no_def now l k (inr (inr (inl (p, op, e, is)))) = nothing now l k (kind_.AugAssign p op e) (aug_assign (plain_expr p) op (plain_expr e)) is (search kind_.the_lemmas) refl
no_def now l k (inr (inr (inr (inl is)))) = nothing now l k kind_.Pass pass is (search kind_.the_lemmas) refl
no_def now l k (inr (inr (inr (inr (inl is))))) = nothing now l k kind_.Break break is (search kind_.the_lemmas) refl
no_def now l k (inr (inr (inr (inr (inr (inl is)))))) = nothing now l k kind_.Continue continue is (search kind_.the_lemmas) refl
no_def now l k (inr (inr (inr (inr (inr (inr (inl (e, is)))))))) = nothing now l k (kind_.Return e) (return (option_map plain_expr e)) is (search kind_.the_lemmas) refl
no_def now l k (inr (inr (inr (inr (inr (inr (inr (inl (e, is))))))))) = nothing now l k (kind_.Raise e) (raise (option_map plain_expr e)) is (search kind_.the_lemmas) refl
no_def now l k (inr (inr (inr (inr (inr (inr (inr (inr (inl (e, w, is)))))))))) = nothing now l k (kind_.Assert e w) (assert (plain_expr e) (option_map plain_expr w)) is (search kind_.the_lemmas) refl
no_def now l k (inr (inr (inr (inr (inr (inr (inr (inr (inr (inl (xs, is))))))))))) = nothing now l k (kind_.Global xs) (global xs.items) is (search kind_.the_lemmas) refl
no_def now l k (inr (inr (inr (inr (inr (inr (inr (inr (inr (inr (inl (xs, is)))))))))))) = nothing now l k (kind_.Import xs) (import (plain_aliases xs.items)) is (search kind_.the_lemmas) refl
no_def now l k (inr (inr (inr (inr (inr (inr (inr (inr (inr (inr (inr (m, xs, is)))))))))))) = nothing now l k (kind_.From m xs) (from m (plain_aliases xs.items)) is (search kind_.the_lemmas) refl
