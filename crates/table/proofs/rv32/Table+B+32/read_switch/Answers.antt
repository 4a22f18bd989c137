use Rattle.table.specs.Tables.{regs}
use Rattle.table.proofs.SwitchWords.{switch_bits_lem}
use Rattle.table.proofs.rv32.Table+B+32.read_switch.Goals as goal

pub returns-in_err-n-clause-bits : goal.returns-in_err-n-clause-bits
returns-in_err-n-clause-bits g c = switch_bits_lem (regs c.args.self.now)

pub returns-clause-bits : goal.returns-clause-bits
returns-clause-bits g c = switch_bits_lem (regs c.args.self.now)
