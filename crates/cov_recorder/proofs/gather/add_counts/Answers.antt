use Rattle.std.proofs.Common.{◌+◌, ◌<◌, length, drop, get_or, ap, sym, ◌∙◌, arith}
use Rattle.cov_data.specs.DataSet.{DataSet}
use Rattle.cov_recorder.specs.Rows.{with_counts}
use Rattle.cov_recorder.proofs.Gathering.{counts_from, counted_in_range, with_count-kind}
use Rattle.cov_recorder.proofs.gather.add_counts.Goals as goal

pub add_count-requires : goal.add_count-requires
add_count-requires c = λ some.
    let within : c.loop-place.place < length c.args.counts.now = omega arith in
    counted_in_range c.args.data.now.arcs c.loop-place.data.arcs c.args.set.now c.args.counts.now c.loop-place.place c.at.result c.loop-place.invariant.kind c.requires.range c.at.ensures within some

pub loop-place-preserved : goal.loop-place-preserved
loop-place-preserved c =
    let i = c.loop-place.place in
    let set = c.args.set.now in
    let counts = c.args.counts.now in
    let path = c.args.path.now in
    let context = c.args.context.now in
    let within : i < length counts = omega arith in
    let is = c.in_ok-add_count.ensures in
    record {
      rest =
          ap (with_counts path context (drop (i + 1) set) (drop (i + 1) counts)) is
          ∙ sym (counts_from path context set counts i c.at.result c.loop-place.data c.at.ensures within)
          ∙ c.loop-place.invariant.rest;
      kind = ap (λ (d : DataSet). d.arcs) is ∙ with_count-kind path context c.at.result (get_or counts i 0) c.loop-place.data ∙ c.loop-place.invariant.kind;
    }
