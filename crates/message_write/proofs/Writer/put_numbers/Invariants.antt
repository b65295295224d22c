use Rattle.std.proofs.Common.{take}
use Rattle.message_write.specs.Put.{Puts}
use Rattle.message_write.specs.Written.{numbers_bytes}
use Rattle.message_write.proofs.Writer.put_numbers.Given as goal

-- the numbers so far are written
abbrev pub invariant-loop-number : goal.invariant-loop-number
invariant-loop-number l = Puts (numbers_bytes (take l.number-index l.numbers)) l.initial.self l.self
