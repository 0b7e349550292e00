use Rattle.std.proofs.Common.{ap, ◌∙◌, arith, nat_eq}
use Rattle.std.specs.List.{list_any}
use Rattle.std.proofs.lemmas.List.{take_all}
use Rattle.cov_data.specs.Numbits.{IsNumbits}
use Rattle.cov_data.proofs.Bits.{needed_at, numbits-shortest, lines_of_bits-numbits}
use Rattle.cov_data.proofs.numbits.numbits_of.Goals as goal

pub set_line-requires : goal.set_line-requires
set_line-requires c = omega (arith, needed_at c.args.lines.now c.loop-line.line-index c.loop-line-test.true, c.loop-line.invariant.size, c.deref_mut.ensures.len)

pub returns : goal.returns
returns c =
    let bytes = c.loop-line.bytes.items in
    let whole = take_all _ _ c.loop-line-test.false in
    let packed : IsNumbits c.args.lines.now bytes = record { size = c.loop-line.invariant.size; bits = λ n. c.loop-line.invariant.bits n ∙ ap (list_any (nat_eq n)) whole } in
    record { numbits = packed; shortest = numbits-shortest c.args.lines.now bytes packed; back = lines_of_bits-numbits c.args.lines.now bytes packed }
