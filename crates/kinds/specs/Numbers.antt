-- The numbers of kinds. Assumes nothing.
use Rattle.std.specs.Prelude.{ℕ, Bool, [], ◌∷◌, ◌==◌}
use Rattle.std.specs.List.{list_any}
use Rattle.kinds.specs.declared.attributes.AttributeKind.{AttributeKind}
use Rattle.kinds.specs.declared.attributes.AttributeKind.TheVariants.{Origin, Path, NextHop, Med, Communities}
use Rattle.kinds.specs.declared.frames.Connection.{Connection}
use Rattle.kinds.specs.declared.frames.Connection.TheVariants.{Down, Up}
use Rattle.kinds.specs.declared.frames.FrameKind.{FrameKind}
use Rattle.kinds.specs.declared.frames.FrameKind.TheVariants as frame
use Rattle.kinds.specs.declared.messages.MessageKind.{MessageKind}
use Rattle.kinds.specs.declared.messages.MessageKind.TheVariants as message

abbrev pub frame_number : FrameKind → ℕ
frame_number frame.Message = 1
frame_number frame.Connection = 2
frame_number frame.Tick = 3
frame_number frame.PolicyText = 4
frame_number frame.Settings = 5
frame_number frame.ToPeer = 16
frame_number frame.Close = 17

-- whether some kind of frame has the number
abbrev pub is_frame : ℕ → Bool
is_frame n = list_any (λ m. m == n) (1 ∷ 2 ∷ 3 ∷ 4 ∷ 5 ∷ 16 ∷ 17 ∷ [])

abbrev pub connection_number : Connection → ℕ
connection_number Down = 0
connection_number Up = 1

abbrev pub is_connection : ℕ → Bool
is_connection n = list_any (λ m. m == n) (0 ∷ 1 ∷ [])

abbrev pub message_number : MessageKind → ℕ
message_number message.Open = 1
message_number message.Update = 2
message_number message.Notification = 3
message_number message.Keepalive = 4

abbrev pub is_message : ℕ → Bool
is_message n = list_any (λ m. m == n) (1 ∷ 2 ∷ 3 ∷ 4 ∷ [])

abbrev pub attribute_number : AttributeKind → ℕ
attribute_number Origin = 1
attribute_number Path = 2
attribute_number NextHop = 3
attribute_number Med = 4
attribute_number Communities = 8

abbrev pub is_attribute : ℕ → Bool
is_attribute n = list_any (λ m. m == n) (1 ∷ 2 ∷ 3 ∷ 4 ∷ 8 ∷ [])

-- 64 is transitive, 128 optional
abbrev pub attribute_flags : AttributeKind → ℕ
attribute_flags Origin = 64
attribute_flags Path = 64
attribute_flags NextHop = 64
attribute_flags Med = 128
attribute_flags Communities = 192
