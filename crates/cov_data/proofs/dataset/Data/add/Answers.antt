use Rattle.std.proofs.Common.{◌≡◌, ap, sym, subst, string_bytes}
use Rattle.cov_data.specs.DataSet.{Text, Place, Files, DataSet, IsSoundFile, IsInRange, file_in, add_row, add_count}
use Rattle.cov_data.proofs.Soundness.{on_either, insert-sound, add_count-sound, number_fits}
use Rattle.std.proofs.lemmas.Int.{to_z-of_z}
use mir.Val.{to_z, of_z}
use mir.Syntax.{w32}
use Rattle.cov_data.proofs.dataset.Data.add.Goals as goal

pub invariant_of-self : goal.invariant_of-self
invariant_of-self c =
    let arcs = c.self.inside.arcs in
    let m = c.self.inside.files in
    let p = string_bytes c.args.row.path in
    let range : IsInRange arcs c.args.row.from c.args.row.to c.args.row.count = subst (λ (d : DataSet). IsInRange d.arcs c.args.row.from c.args.row.to c.args.row.count) (sym c.self.view_is) c.requires in
    let from = to_z-of_z w32 c.args.row.from (number_fits c.args.row.from range.from_number) in
    let to = to_z-of_z w32 c.args.row.to (number_fits c.args.row.to range.to_number) in
    let k : Place = (string_bytes c.args.row.context, (c.args.row.from, c.args.row.to)) in
    let given : Place = (string_bytes c.args.row.context, (to_z w32 (of_z w32 c.args.row.from), to_z w32 (of_z w32 c.args.row.to))) in
    let same : k ≡ given = λ i. (string_bytes c.args.row.context, (sym from i, sym to i)) in
    let P = λ (x : Files). (q : Text) → IsSoundFile arcs (file_in x q) in
    on_either P c.add.result c.add.new.self (add_row m p given c.args.row.count) m c.add.ensures.ok c.add.ensures.err
    (subst P (ap (λ x. add_row m p x c.args.row.count) same)
    (insert-sound arcs m c.self.invariant p (add_count (file_in m p) k c.args.row.count) (add_count-sound arcs (file_in m p) k c.args.row.count (c.self.invariant p) range c.add.ensures.fits)))
    c.self.invariant
