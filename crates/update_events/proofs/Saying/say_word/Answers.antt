use Rattle.std.proofs.Common.{Some, None}
use Rattle.prefix.specs.Meant.{meant}
use Rattle.prefix.specs.Prefix.{number}
use Rattle.route.specs.Meant.{route_of}
use Rattle.server.specs.Meant.{size_of}
use Rattle.update.specs.Meant.{content_meant}
use Rattle.update_events.proofs.Words.{said}
use Rattle.update_events.proofs.Saying.say_word.Goals as goal

pub returns-in-Some-clause-promise : goal.returns-in-Some-clause-promise
returns-in-Some-clause-promise g c =
    let s = c.args.self.now in
    said g.S.Sink.sends (size_of c.args.server.now.peers) s.peer (content_meant s.content.now) s.message.now (number (meant c.args.prefix)) (Some (route_of c.in-Some.route)) _ _ _ _ c.requires c.in-Some.ensures c.announce.ensures.promise

pub returns-in-None-clause-promise : goal.returns-in-None-clause-promise
returns-in-None-clause-promise g c =
    let s = c.args.self.now in
    said g.S.Sink.sends (size_of c.args.server.now.peers) s.peer (content_meant s.content.now) s.message.now (number (meant c.args.prefix)) None _ _ _ _ c.requires c.in-None.ensures c.withdraw.ensures.promise
