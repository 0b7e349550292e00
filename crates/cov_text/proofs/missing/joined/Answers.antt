use Rattle.std.proofs.Common.{◌≡◌, ℕ, ℤ, List, map, Bor, String, Global, string_bytes, IfOk, ap, sym, ◌∙◌, codes, rules, subst}
use Rattle.std.specs.List.{join_by}
use Rattle.std.proofs.lemmas.Map.Iter.{iter_end}
use Rattle.cov_text.specs.Missing.{Item, joined}
use Rattle.cov_text.specs.Stored.{items_of}
use Rattle.cov_text.proofs.Lists.{map-map, join_by-map, pushed}
use Rattle.cov_text.proofs.missing.joined.Goals as goal

pub loop-line-preserved : goal.loop-line-preserved
loop-line-preserved c =
    pushed (λ (k : Bor (ℕ × String Global × ℤ)). string_bytes k.now.1) c.loop-line.texts.items c.push.new.self.items c.as_str.result c.loop-line.yielded c.in-Some.field-0 c.in_ok-push.ensures.items (cc) c.loop-line.invariant

pub returns : goal.returns
returns c =
    let key : ℕ × String Global × ℤ → List ℕ = λ k. string_bytes k.1 in
    let at : Bor (ℕ × String Global × ℤ) → ℕ × String Global × ℤ = λ k. k.now in
    let now : Bor (List ℕ) → List ℕ = λ t. t.now in
    let text : Item → List ℕ = λ item. item.1 in
    let keys = c.args.items.now.keys in
    let ended : map at c.loop-line.yielded ≡ keys = search (rules, iter_end) in
    let listed : map now c.deref.result.now ≡ map text (items_of keys) =
    ap (map now) c.deref.ensures.value ∙ c.loop-line.invariant ∙ sym (map-map at key c.loop-line.yielded) ∙ ap (map key) ended ∙ sym (map-map (λ (k : ℕ × String Global × ℤ). (k.0, string_bytes k.1, k.2)) text keys) in
    let same : join_by now (codes ", ") c.deref.result.now ≡ joined (items_of keys) =
    sym (join_by-map now (codes ", ") c.deref.result.now) ∙ ap (join_by (λ y. y) (codes ", ")) listed ∙ join_by-map text (codes ", ") (items_of keys) in
    subst (λ (v : List ℕ). IfOk c.join.result (λ t. string_bytes t ≡ v)) same c.join.ensures.ok
