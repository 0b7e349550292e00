use Rattle.std.proofs.Common.{◌≡◌, ℕ, ◌+◌, Bool, ◌||◌, List, [], ◌∷◌, ◌++◌, map, drop, Bor, sym, ap, ◌∙◌, rules, string_bytes}
use Rattle.std.specs.BTreeSet.{contains_text}
use Rattle.std.specs.Str.{bytes_eq}
use Rattle.std.proofs.lemmas.Map.Text.{btree_set_updates_text}
use Rattle.cov_step.specs.Names.{is_named, removable}
use Rattle.cov_joins.proofs.Marking.{holds-more, names-at, name-left, name-taken}
use Rattle.cov_joins.proofs.removing.removable.Goals.{then-not-stays+in_ok-from_str+in_ok-insert+in_ok-push, else-not-stays}
use Rattle.cov_joins.proofs.removing.removable.Goals as goal

pub loop-name-preserved : goal.loop-name-preserved
loop-name-preserved c =
    let own = c.args.own.now in
    let done = c.loop-name.invariant.0 in
    let name = c.as_str-name.result in
    let rest = map string_bytes (drop (c.loop-name.name-index + 1) c.args.others.now) in
    let at : map string_bytes (drop c.loop-name.name-index c.args.others.now) ≡ name.now ∷ rest = names-at c.args.others.now c.loop-name.name-index c.name-item.result c.loop-name-test.true c.name-item.is ∙ ap (λ (k : List ℕ). k ∷ rest) (sym c.as_str-name.ensures.value) in
    let so : map (λ (n : Bor (List ℕ)). n.now) c.loop-name.names.items ++ removable own done (name.now ∷ rest) ≡ removable own [] (map string_bytes c.args.others.now) =
    ap (λ (k : List (List ℕ)). map (λ (n : Bor (List ℕ)). n.now) c.loop-name.names.items ++ removable own done k) (sym at) ∙ c.loop-name.invariant.2 in
    let tested : (bytes_eq name.now own || is_named done name.now) ≡ c.stays.result = ap (λ (b : Bool). bytes_eq name.now own || b) (sym (c.loop-name.invariant.1 name.now)) ∙ sym c.stays.ensures in
    elim c.if-not-stays.branch [
      | then-not-stays+in_ok-from_str+in_ok-insert+in_ok-push w ↦ (
        name.now ∷ done,
        λ bs. ap (λ s. contains_text s bs) w.done-is
            ∙ holds-more c.loop-name.done w.insert.new.self (string_bytes w.in_ok-from_str.field-0) done
            (λ cs. btree_set_updates_text (string_bytes w.in_ok-from_str.field-0) c.loop-name.done w.insert.new.self _ w.in_ok-insert.ensures.updates cs) c.loop-name.invariant.1 bs
            ∙ ap (λ (n : List ℕ). is_named (n ∷ done) bs) w.in_ok-from_str.ensures.ok,
        name-taken own done rest (map string_bytes c.args.others.now) name c.loop-name.names.items so c.if-not-stays.names.items
            (ap (λ v. v.items) w.names-is ∙ w.in_ok-push.ensures.items) (tested ∙ search (rules, w.if-not-stays.true)),
      )
      | else-not-stays w ↦ (
        done,
        λ bs. ap (λ s. contains_text s bs) w.done-is ∙ c.loop-name.invariant.1 bs,
        ap (λ (v : List (Bor (List ℕ))). map (λ (n : Bor (List ℕ)). n.now) v ++ removable own done rest) (ap (λ v. v.items) w.names-is)
            ∙ name-left own done rest (map string_bytes c.args.others.now) name c.loop-name.names.items so (tested ∙ search (rules, w.if-not-stays.false)),
      )
    ]
