-- The number of each fault.
use Rattle.std.specs.Prelude.{ℕ}
use Rattle.fault.specs.declared.Fault.{Fault}
use Rattle.fault.specs.declared.Fault.TheVariants.{Header, Open, NotEstablished, Overrun, Attribute, Value, NextHop, Missing, Capacity, PolicyText, Frame, HoldTimer}

abbrev pub code : Fault → ℕ
code Header = 1
code Open = 2
code NotEstablished = 3
code Overrun = 4
code Attribute = 5
code Value = 6
code NextHop = 7
code Missing = 8
code Capacity = 9
code PolicyText = 10
code Frame = 11
code HoldTimer = 13
