use Rattle.std.proofs.Common.{◌≡◌, ℕ, Bool, List, IfOk, string_bytes, subst, ap, ◌∙◌}
use Rattle.std.proofs.Math.Path.{fun_ext}
use Rattle.std.specs.BTreeSet.{contains}
use Rattle.std.specs.Ordering.{nat_cmp}
use Rattle.cov_analysis.specs.Analyses.{analysis_view}
use Rattle.cov_analysis.specs.Lines.{is_among}
use Rattle.cov_text.specs.Missing.{joined}
use Rattle.cov_text.specs.Stored.{items_of}
use Rattle.cov_text.proofs.Items.{all_items}
use Rattle.cov_text.proofs.missing.missing_text.Goals as goal

pub returns : goal.returns
returns c =
    let file = analysis_view c.args.file.now in
    let test : ℕ → Bool = contains nat_cmp c.in_ok-missing.missing in
    let same : test ≡ is_among file.missing = fun_ext (λ line. c.in_ok-missing.ensures line ∙ ap (λ (xs : List ℕ). is_among xs line) c.as_slice.ensures.value) in
    let items = all_items file test (items_of c.new-items.result.keys) (items_of c.add_ranges.new.items.keys) (items_of c.add_branches.new.items.keys) c.as_slice-2.result.now c.as_slice-3.result.now same c.as_slice-2.ensures.value c.as_slice-3.ensures.value (ap items_of c.new-items.ensures.empty) c.in_ok-add_ranges.ensures c.in_ok-add_branches.ensures in
    subst (λ (v : List ℕ). IfOk c.joined.result (λ t. string_bytes t ≡ v)) (ap joined items) c.joined.ensures
