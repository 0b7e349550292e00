use Rattle.std.proofs.Common.{◌<◌, ◌≤◌, length, map, ap, sym, subst, ◌∙◌, arith}
use Rattle.cov_recorder.specs.declared.rows.Counters.{Counters}
use Rattle.cov_recorder.specs.Counters.{AreIndexed, bumped}
use Rattle.cov_recorder.specs.Rows.{row_from}
use Rattle.cov_recorder.proofs.Counting.{bumped-is, bumped-outside, AreIndexed-bumped}
use Rattle.cov_recorder.proofs.rows.Rows.bump.Goals as goal

pub invariant_of-self : goal.invariant_of-self
invariant_of-self c =
    let within : c.args.number < length c.self.inside.rows.items = omega (arith, c.if-number-len.true, c.len.ensures) in
    let old = c.index_mut-row.result.now in
    let new : Counters = record { «module» = old.module; label = old.label; counts = c.raise.new.counts } in
    let changed = bumped-is c.self.inside.rows.items c.args.number c.args.place within old new c.index_mut-row.ensures.value (ap (λ ns. record (row_from old) { counts = ns }) c.raise.ensures) in
    subst (AreIndexed c.self.inside.numbers.items) (sym changed) (AreIndexed-bumped c.self.inside.numbers.items (map row_from c.self.inside.rows.items) c.args.number c.args.place c.self.invariant)

pub returns-then-number-len : goal.returns-then-number-len
returns-then-number-len c =
    let within : c.args.number < length c.self.inside.rows.items = omega (arith, c.if-number-len.true, c.len.ensures) in
    let old = c.index_mut-row.result.now in
    let new : Counters = record { «module» = old.module; label = old.label; counts = c.raise.new.counts } in
    bumped-is c.self.inside.rows.items c.args.number c.args.place within old new c.index_mut-row.ensures.value (ap (λ ns. record (row_from old) { counts = ns }) c.raise.ensures)
    ∙ ap (λ rows. bumped rows c.args.number c.args.place) c.self.view_is

pub returns-else-number-len : goal.returns-else-number-len
returns-else-number-len c =
    let outside : length c.self.inside.rows.items ≤ c.args.number = omega (arith, c.if-number-len.false, c.len.ensures) in
    sym c.self.view_is ∙ bumped-outside c.self.inside.rows.items c.args.number c.args.place outside ∙ ap (λ rows. bumped rows c.args.number c.args.place) c.self.view_is
