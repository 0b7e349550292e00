use Rattle.std.proofs.Common.{◌≡◌, ◌++◌, drop, encode_utf8_all, map, string_bytes}
use Rattle.cov_selects.proofs.choosing.strings.Given as goal

abbrev pub invariant-loop-text : goal.invariant-loop-text
invariant-loop-text l = map string_bytes l.strings.items ++ map encode_utf8_all (drop l.text-index l.texts) ≡ map encode_utf8_all l.texts
