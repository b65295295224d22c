-- Which fault a frame is that is passed over or cannot be read. Assumes nothing.
use Rattle.fault.specs.declared.Fault.{Fault}
use Rattle.fault.specs.declared.Fault.TheVariants.{PolicyText, Frame}
use Rattle.frame.specs.declared.event.Refusal.{Refusal}
use Rattle.frame.specs.declared.event.Refusal.TheVariants.{NoSettings, SettingsAgain, TooManyPeers, TextTooLong}
use Rattle.frame.specs.declared.event.Defect.{Defect}

abbrev pub refusal_fault : Refusal → Fault
refusal_fault NoSettings = Frame
refusal_fault SettingsAgain = Frame
refusal_fault TooManyPeers = Frame
refusal_fault TextTooLong = PolicyText

abbrev pub defect_fault : Defect → Fault
defect_fault d = Frame
