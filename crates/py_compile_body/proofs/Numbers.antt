-- The units of functions, by the lines of their `def`s.
use Rattle.std.proofs.Common.{◌≡◌, ℕ, suc, ◌+◌, ◌<◌, List, [], length, drop, get_or, Bool, true, false, cond, Option, Some, None, refl, sym, ap, ◌∙◌, arith}
use Rattle.std.specs.Prelude.{nat_eq, unwrap_or, if◌then◌else◌}
use Rattle.std.proofs.lemmas.List.{drop_all, get_or_default}
use Rattle.std.specs.Map.{lookup}
use Rattle.indexmap.specs.IndexMap.{IndexMap, IsEmpty, get}
use Rattle.py_compile_expr.proofs.Turns.{the_drop}
use Rattle.py_meaning.specs.Modules.{unit_at}
use Rattle.py_compile_body.specs.Parts.{at_lines}
use Rattle.py_compile_body.proofs.Lines.{at_first}

-- the one that is added now, or one that was there
numbered : (b : Bool) (n unit len u : ℕ) (m : Option ℕ) → unit ≡ n + 1 → unwrap_or m len ≡ (n + 1) + u → unwrap_or (cond b (Some unit) m) len ≡ n + (if b then 1 else suc u)
numbered true n unit len u m e h = e
numbered false n unit len u m e h = h ∙ omega arith

pub number_turn : (lines : List ℕ) (i left unit q : ℕ) (old new : Option ℕ) → left ≡ i + 1 → unit ≡ left → i < length lines → new ≡ cond (nat_eq (get_or lines i 0) q) (Some unit) old
    → unwrap_or old (length lines) ≡ left + unit_at q (at_lines (drop left lines)) → unwrap_or new (length lines) ≡ i + unit_at q (at_lines (drop i lines))
number_turn lines i left unit q old new e u lt n h =
    let x = get_or lines i 0 in
    ap (λ o. unwrap_or o (length lines)) n
    ∙ numbered (nat_eq x q) i unit (length lines) (unit_at q (at_lines (drop (i + 1) lines))) old (u ∙ e) (h ∙ ap (λ k. k + unit_at q (at_lines (drop k lines))) e)
    ∙ ap (λ k. i + k) (sym (ap (λ xs. unit_at q (at_lines xs)) (the_drop lines i x lt (get_or_default lines i 0 x lt)) ∙ at_first q x (drop (i + 1) lines)))

-- before the first one
unit_none : (q : ℕ) → unit_at q [] ≡ 0
unfolding unit_at
unit_none q = refl

pub number_none : (lines : List ℕ) (left q : ℕ) (m : Option ℕ) → left ≡ length lines → m ≡ None → unwrap_or m (length lines) ≡ left + unit_at q (at_lines (drop left lines))
number_none lines left q m e is =
    let k : unit_at q (at_lines (drop left lines)) ≡ 0 = ap (λ xs. unit_at q (at_lines xs)) (drop_all left lines (omega arith)) ∙ unit_none q in
    ap (λ o. unwrap_or o (length lines)) is ∙ omega (arith, k, e)

pub none_there : {S : Type 0} (m : IndexMap ℕ ℕ S) (q : ℕ) → IsEmpty m → get nat_eq m q ≡ None
none_there m q e = ap (lookup (nat_eq q)) e

-- at the last one
pub number_all : (lines : List ℕ) (left q n : ℕ) → left ≡ 0 → n ≡ left + unit_at q (at_lines (drop left lines)) → n ≡ unit_at q (at_lines lines)
number_all lines left q n e h = let k : n ≡ 0 + unit_at q (at_lines lines) = h ∙ ap (λ m. m + unit_at q (at_lines (drop m lines))) e in omega (arith, k)
