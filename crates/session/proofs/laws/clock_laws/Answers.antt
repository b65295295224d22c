use Rattle.session.proofs.Beats.{stays_down}
use Rattle.session.proofs.Silence.{kept_up, up_before, silence}
use Rattle.session.proofs.Keepalives.{sent_lately, keepalive, on_time}
use Rattle.session.proofs.laws.clock_laws.Goals as goal

pub returns : goal.returns
returns c = record { kept_up = kept_up; up_before = up_before; silence = silence; stays_down = stays_down; sent_lately = sent_lately; keepalive = keepalive; on_time = on_time }
