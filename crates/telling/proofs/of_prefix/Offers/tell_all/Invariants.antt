use Rattle.model.specs.Chain.{Chain}
use Rattle.peers.specs.Members.{is_member}
use Rattle.prefix.specs.Meant.{meant}
use Rattle.prefix.specs.Prefix.{number}
use Rattle.selection.specs.Meant.{candidate_of}
use Rattle.std.specs.Option.{option_map}
use Rattle.telling.specs.Steps.{of_prefix}
use Rattle.telling.proofs.of_prefix.Offers.tell_all.Given as goal

-- the peers below have been told
abbrev pub invariant-loop-peer : goal.invariant-loop-peer
invariant-loop-peer g l =
    Chain g.S.Sink.sends l.initial.sink (of_prefix (number (meant l.self.prefix)) (is_member l.self.up.now) (g.P.PolicySource.exports l.self.policies.now) (option_map candidate_of l.self.old) (option_map candidate_of l.self.new) l.peer) l.sink
