use Rattle.std.proofs.Common.{◌≡◌, ℕ, cond, ◌&&◌, ltb}
use Rattle.peers.specs.Members.{is_member}
use Rattle.sessions.proofs.Sessions.tick.Given as goal
use Rattle.sessions.specs.Sessions.{sessions_later, sessions_of, silent_in}

-- for those below a second has passed
abbrev pub invariant-loop-peer : goal.invariant-loop-peer
invariant-loop-peer l = record {
  passed : (i : ℕ) → sessions_of l.self i ≡ cond (ltb i l.peer) (sessions_later (sessions_of l.initial.self) i) (sessions_of l.initial.self i);
  silent : (i : ℕ) → is_member l.silent i ≡ (ltb i l.peer && (ltb i 64 && silent_in (sessions_of l.initial.self) i));
}
