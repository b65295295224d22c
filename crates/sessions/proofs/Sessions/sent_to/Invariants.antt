use Rattle.std.proofs.Common.{◌≡◌, ℕ, cond, ltb}
use Rattle.peers.specs.Members.{is_member}
use Rattle.sessions.proofs.Sessions.sent_to.Given as goal
use Rattle.sessions.specs.Sessions.{sent_to, sessions_of}

-- those below are noted
abbrev pub invariant-loop-peer : goal.invariant-loop-peer
invariant-loop-peer l = (i : ℕ) → sessions_of l.self i ≡ cond (ltb i l.peer) (sent_to (is_member l.peers) (sessions_of l.initial.self) i) (sessions_of l.initial.self i)
