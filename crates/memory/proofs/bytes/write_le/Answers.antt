use Rattle.std.proofs.Common.{◌∙◌, arith}
use Rattle.std.proofs.lemmas.List.{get_or-take}
use Rattle.memory.proofs.Values.{byte_of_le}
use Rattle.memory.proofs.bytes.write_le.Goals as goal

pub returns : goal.returns
returns c = λ i h. rw (c.copy_from_slice.ensures.after, c.to_le_bytes-bytes.ensures) (get_or-take _ _ i 0 h ∙ byte_of_le c.args.value i (omega arith))
