use Rattle.std.proofs.Common.{◌≡◌, ℕ, ℤ, ap, ◌∙◌, string_bytes, String, Global, w32, to_z, of_z, arith}
use Rattle.std.specs.BTreeSet.{insert_key}
use Rattle.std.proofs.lemmas.Int.{to_z-of_z}
use Rattle.cov_text.specs.Missing.{Item, item_cmp}
use Rattle.cov_text.proofs.Items.{insert_key-map}
use Rattle.cov_text.specs.Stored.{items_of}
use Rattle.cov_text.proofs.missing.add.Goals as goal

pub returns : goal.returns
returns c =
    let view : ℕ × String Global × ℤ → Item = λ k. (k.0, string_bytes k.1, k.2) in
    let end : to_z w32 (of_z w32 c.args.end) ≡ c.args.end = grind (arith, to_z-of_z) in
    ap items_of c.in_ok-insert.ensures.keys
    ∙ ap (λ (n : ℤ). items_of (insert_key (λ a b. item_cmp (view a) (view b)) c.args.items.now.keys (c.args.line, c.args.text, n))) end
    ∙ insert_key-map view item_cmp c.args.items.now.keys (c.args.line, c.args.text, c.args.end)
