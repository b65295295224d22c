-- Before the first frame, and from what is served to what is promised. Assumes nothing.
use Rattle.std.proofs.Common.{◌≡◌, ℕ, ◌^◌, ◌<◌, ◌≤◌, ltb, List, [], ◌∷◌, get_or, replicate, None, Option, refl, ap, ◌∙◌, subst, ⊎_elim, arith}
use lib.ListN.{length-replicate}
use Rattle.frame.specs.Frame.{Happening}
use Rattle.frame.specs.Settings.{Exchange}
use Rattle.model.specs.Stands as model
use Rattle.policy_clauses.specs.Reading.{Written}
use Rattle.policy_tables.specs.Texts.{Content, clauses_meant, nothing, place_of, policy_for}
use Rattle.policy_tables.specs.declared.Direction.{Direction}
use Rattle.policy_tables.specs.declared.Direction.TheVariants.{Import, Export}
use Rattle.rib.specs.Received.{most_peers}
use Rattle.selection.specs.Intended.{Rules}
use Rattle.selection.specs.Meant.{rules_of}
use Rattle.server.specs.Meant.{size_of}
use Rattle.session.specs.Session.{down}
use Rattle.speaker.specs.Serves.{Promised, Serves, Stands}
use Rattle.speaker.specs.State.{State}
use Rattle.speaker_model.proofs.Agreeing.{agree}
use Rattle.speaker_model.proofs.Bytes.{in_bytes}
use Rattle.speaker_model.proofs.Keeping.{laws}
use Rattle.speaker_model.specs.Promise.{AllTold}
use Rattle.speaker_model.specs.World.{count_of, rules_at_start, world_after}
use Rattle.std.proofs.lemmas.List.{get_or_past, get_or-replicate}
use Rattle.std.proofs.lemmas.Bool.{cases_lt, cond_both}

-- before the first text nobody has a clause
no_clauses : (direction : Direction) (i : ℕ) → policy_for nothing direction i ≡ []
no_clauses direction i = cond_both (ltb i 64) (clauses_meant [] (get_or (replicate 128 None) (place_of direction i) None)) [] (λ p. p ≡ []) (λ _. ap (clauses_meant []) (empty (place_of direction i))) (λ _. refl)
  where
    unnamed : Option (List Written)
    unnamed = None

    empty : (k : ℕ) → get_or (replicate 128 unnamed) k unnamed ≡ unnamed
    empty k = ⊎_elim (λ l. get_or-replicate 128 k unnamed unnamed l) (λ l. get_or_past (replicate 128 unnamed) k unnamed (omega (arith, length-replicate 128 unnamed))) (cases_lt k 128)

pub rules_at_start_lem : (x : Exchange) (content : Content) → content ≡ nothing → rules_of x.asn (policy_for content Import) (policy_for content Export) ≡ rules_at_start x
rules_at_start_lem x content empty = ap (λ c. rules_of x.asn (policy_for c Import) (policy_for c Export)) empty ∙ (λ k. record { own = x.asn; imports = λ i. no_clauses Import i k; exports = λ i. no_clauses Export i k })

module _ {O : Type 0} (W : O → List ℕ → O → Type 0) where
  pub stands_at_start : (s : State O) (rules : Rules) → s.peers ≡ count_of s.exchange → count_of s.exchange ≤ most_peers → ((i : ℕ) → s.sessions i ≡ down) → s.outbox.own_asn ≡ s.exchange.asn → s.outbox.address ≡ s.exchange.address → rules ≡ rules_at_start s.exchange → model.Stands (size_of s.peers) rules s.now [] → Stands s []
  unfolding world_after
  stands_at_start s rules peers few sessions own address same start = record {
    sessions = sessions;
    model = subst (λ n. model.Stands (size_of n) (rules_at_start s.exchange) s.now []) peers (subst (λ r. model.Stands (size_of s.peers) r s.now []) same start);
    peers = peers;
    few = few;
    addressed = record { own = own; address = address };
  }

  pub promised : (h : Happening) (s t : State O) → s.exchange.asn < 2 ^ 32 → s.exchange.address < 2 ^ 32 → Serves W h s t → Promised W h s t
  unfolding AllTold
  promised h s t asn address serves = record {
    keeps = λ hs stands told.
        let served = serves.serves hs stands in
        let all : AllTold s.exchange (h ∷ hs) = (served.tellable, told) in
        record {
          served = served;
          told = all;
          promise = in_bytes s.exchange stands.few address asn (h ∷ hs) all;
          laws = laws s.exchange (world_after s.exchange hs) stands.few (agree s.exchange stands.few hs);
        };
  }
