use Rattle.std.proofs.Common.{ap}
use Rattle.outbox.proofs.Sending.{announced, withdrawn}
use Rattle.outbox.proofs.putting.OutboxSink.send.Goals as goal
use Rattle.outbox.specs.Outbox.{box_of}
use Rattle.prefix.proofs.Descent.{inverse}
use Rattle.prefix.proofs.Order.{bounded}
use Rattle.prefix.specs.Meant.{meant}
use Rattle.route.specs.Meant.{route_of}
use Rattle.std.specs.Option.{option_map}

pub returns-in-Some : goal.returns-in-Some
returns-in-Some g c = announced g.O.Output.writes (box_of c.args.self.now) (box_of c.carry.new.self) c.args.peer (meant c.args.prefix) c.args.prefix.valid bounded _ (route_of c.in-Some.route.now) (ap (option_map (λ x. route_of x.now)) c.in-Some.is) c.sendable_law.ensures c.carry.ensures

pub returns-in-None : goal.returns-in-None
returns-in-None g c = withdrawn g.O.Output.writes (box_of c.args.self.now) (box_of c.carry-in-None.new.self) c.args.peer (meant c.args.prefix) c.args.prefix.valid bounded inverse _ (ap (option_map (λ x. route_of x.now)) c.in-None.is) c.carry-in-None.ensures
