use Rattle.std.proofs.Common.{◌+◌, cond, sym, ap, ◌∙◌, arith}
use Rattle.peers.specs.Members.{is_member}
use Rattle.session.specs.Session.{down, is_silent, ticked}
use Rattle.sessions.proofs.Rows.{one_more_silent, passed_more, untouched, all_are, all_silent, later_down, outside}
use Rattle.sessions.proofs.Sessions.tick.Goals as goal
use Rattle.sessions.specs.Sessions.{sessions_later, sessions_of, silent_in}

pub loop-peer-preserved : goal.loop-peer-preserved
unfolding silent_in
loop-peer-preserved c =
    let f = sessions_of c.args.self.now in
    let h = sessions_of c.loop-peer.self in
    let k = c.loop-peer.peer in
    let later = c.tick-session.ensures ∙ ap ticked c.get.ensures in
    record {
      passed = passed_more f h (sessions_of c.set-in-loop-peer.new.self) k _ c.loop-peer.invariant.passed (c.unless_silent.ensures ∙ ap (λ s. cond (is_silent s) down s) later) c.set-in-loop-peer.ensures;
      silent = one_more_silent (silent_in f) (is_member c.loop-peer.silent) (is_member c.set.new.self) k c.is_silent.result c.loop-peer.invariant.silent (c.is_silent.ensures ∙ ap is_silent (later ∙ ap ticked (untouched f (sessions_later f) h k c.loop-peer.invariant.passed))) c.set.ensures;
    }

pub returns-2 : goal.returns-2
unfolding silent_in
returns-2 c =
    let f = sessions_of c.args.self.now in
    let h = sessions_of c.loop-peer.self in
    let k = c.loop-peer.peer in
    let later = c.tick-session.ensures ∙ ap ticked c.get.ensures in
    record {
      sessions = all_are f (sessions_later f) (sessions_of c.set-in-loop-peer.new.self) (k + 1)
          (λ i l. let gone = outside c.args.self.now.row i (omega (arith, l)) in gone ∙ sym (later_down f i gone))
          (passed_more f h (sessions_of c.set-in-loop-peer.new.self) k _ c.loop-peer.invariant.passed (c.unless_silent.ensures ∙ ap (λ s. cond (is_silent s) down s) later) c.set-in-loop-peer.ensures);
      silent = all_silent (silent_in f) (is_member c.set.new.self) (k + 1) (omega arith)
          (one_more_silent (silent_in f) (is_member c.loop-peer.silent) (is_member c.set.new.self) k c.is_silent.result c.loop-peer.invariant.silent (c.is_silent.ensures ∙ ap is_silent (later ∙ ap ticked (untouched f (sessions_later f) h k c.loop-peer.invariant.passed))) c.set.ensures);
    }
