use Rattle.std.proofs.Common.{◌+◌, cond, ◌∙◌, arith}
use Rattle.peers.specs.Members.{is_member}
use Rattle.session.specs.Session.{sent_now}
use Rattle.sessions.proofs.Rows.{all_are, outside, sent_more, stays_sent}
use Rattle.sessions.proofs.Sessions.sent_to.Goals as goal
use Rattle.sessions.specs.Sessions.{sent_to, sessions_of}

pub loop-peer-preserved : goal.loop-peer-preserved
loop-peer-preserved c =
    let set = is_member c.args.peers.now in
    let h = sessions_of c.loop-peer.self in
    let k = c.loop-peer.peer in
    sent_more set (sessions_of c.args.self.now) h (sessions_of c.set.new.self) k _ c.loop-peer.invariant
    (c.if_sent.ensures ∙ (λ t. cond (c.contains.ensures t) (sent_now (c.get-session.ensures t)) (c.get-session.ensures t))) c.set.ensures

pub returns-2 : goal.returns-2
returns-2 c =
    let set = is_member c.args.peers.now in
    let f = sessions_of c.args.self.now in
    let h = sessions_of c.loop-peer.self in
    let k = c.loop-peer.peer in
    all_are f (sent_to set f) (sessions_of c.set.new.self) (k + 1) (λ i l. stays_sent set f i (outside c.args.self.now.row i (omega (arith, l))))
    (sent_more set f h (sessions_of c.set.new.self) k _ c.loop-peer.invariant
    (c.if_sent.ensures ∙ (λ t. cond (c.contains.ensures t) (sent_now (c.get-session.ensures t)) (c.get-session.ensures t))) c.set.ensures)
