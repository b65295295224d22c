use Rattle.prefix.proofs.Descent.{onto, inverse}
use Rattle.prefix.proofs.Order.{bounded, injective, rising}
use Rattle.prefix.proofs.numbers.number_laws.Goals as goal

pub returns : goal.returns
returns c = record { rising = rising; injective = injective; bounded = bounded; onto = onto; inverse = inverse }
