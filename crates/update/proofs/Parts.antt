-- Every fault has a number below the one that stands for none. Assumes nothing.
use Rattle.std.proofs.Common.{◌≡◌, true, ltb, refl}
use Rattle.attributes.specs.Meaning.{no_fault}
use Rattle.fault.specs.Fault.{code}
use Rattle.fault.specs.declared.Fault.{Fault}
use Rattle.fault.specs.declared.Fault.TheVariants.{Header, Open, NotEstablished, Overrun, Attribute, Value, NextHop, Missing, Capacity, PolicyText, Frame, HoldTimer}

pub below : (f : Fault) → ltb (code f) no_fault ≡ true
below Header = refl
below Open = refl
below NotEstablished = refl
below Overrun = refl
below Attribute = refl
below Value = refl
below NextHop = refl
below Missing = refl
below Capacity = refl
below PolicyText = refl
below Frame = refl
below HoldTimer = refl
