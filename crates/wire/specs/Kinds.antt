-- The kinds of messages, and their numbers. Assumes nothing.
use Rattle.std.specs.Prelude.{ℕ, cond, Some, None, Option, ◌==◌}
use Rattle.wire.specs.declared.kinds.Kind.{Kind}
use Rattle.wire.specs.declared.kinds.Kind.TheVariants.{Open, Update, Notification, Keepalive}

abbrev pub number_of : Kind → ℕ
number_of Open = 1
number_of Update = 2
number_of Notification = 3
number_of Keepalive = 4

abbrev pub kind_named : ℕ → Option Kind
kind_named n = cond (n == number_of Open) (Some Open) (cond (n == number_of Update) (Some Update) (cond (n == number_of Notification) (Some Notification) (cond (n == number_of Keepalive) (Some Keepalive) None)))
