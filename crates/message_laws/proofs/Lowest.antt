-- Of the faults that a message has, the lowest is answered. Assumes nothing.
use Rattle.std.proofs.Common.{◌≡◌, ℕ, ◌+◌, ◌≤◌, Bool, true, false, cond, ◌&&◌, ◌||◌, eqb, ltb, leb, ◌⊎◌, List, length, get_or, drop, Some, None, sym, refl, ap, ◌∙◌, subst, inl, inr, ⊎_elim, arith}
use Rattle.attributes.specs.AsPath.{got, fault}
use Rattle.attributes.specs.Layout.{attribute_size}
use Rattle.attributes.specs.Meaning.{Peer, no_fault}
use Rattle.message.specs.Header.{has_marker, has_length, kind_named, kind_number, is_framed, kind_of}
use Rattle.message.specs.Message.{as_open, as_update, read_as, read_body, read_message}
use Rattle.message.specs.Open.{Open, is_asn, is_hold_time, is_offer, offers, parameter_offer, is_open, read_open}
use Rattle.message.specs.declared.Kind.{Kind}
use Rattle.message.specs.declared.Kind.TheVariants as a_kind
use Rattle.message.specs.declared.State.{State}
use Rattle.message.specs.declared.State.TheVariants.{OpenSent, Established}
use Rattle.message_laws.specs.HasFault.{HasFault, answered, LowestFault}
use Rattle.message_laws.specs.HasFault.{no_marker, other_length, too_long, wrong_kind, not_awaited, other_version, other_network, other_hold_time, other_end, not_offered, early_update, early_keepalive, parts_over, withdrawn_over, attributes_over, announced_over, twice, malformed, no_prefix_withdrawn, no_prefix_announced, invalid, foreign, lacking}
use Rattle.std.proofs.lemmas.Bool.Decides.{nat_tests}
use Rattle.std.proofs.lemmas.Bool.{both_ways, cases_eq}
use Rattle.update.specs.Sections.{sections_end, withdrawn_in, attributes_in, announced_in}
use Rattle.update.specs.Update.{Announces, Withdraws, Faulty, Attributes, attributes_of, attributes_said, types_of, announces, repeats, has_malformed, has_invalid, is_foreign, lacks_attribute, runs_over, update_fault, content_of, read_update}
use Rattle.wire.specs.Bytes.{u16_of, u32_of}
use Rattle.wire.specs.Nlri.{prefix_size, has_no_prefix}
use Rattle.wire.specs.Pieces.{overruns, some}

-- what an UPDATE answers
content_answer_lem : (over : Bool) (k : ℕ) (ann : Bool) (a : Attributes) → k ≤ no_fault → answered (as_update (cond over (fault 4) (got (cond (ltb k no_fault) (Faulty k) (cond ann (Announces a) Withdraws))))) ≡ cond over 4 k
content_answer_lem true k ann a h = refl
content_answer_lem false k ann a h = judged (ltb k no_fault) (cases_lt_none k h) ann
  where
    cases_lt_none : (k : ℕ) → k ≤ no_fault → ltb k no_fault ≡ false → k ≡ no_fault
    cases_lt_none k h e = grind (arith, nat_tests)

    judged : (b : Bool) → (b ≡ false → k ≡ no_fault) → (ann : Bool) → answered (as_update (got (cond b (Faulty k) (cond ann (Announces a) Withdraws)))) ≡ k
    judged true h ann = refl
    judged false h true = sym (h refl)
    judged false h false = sym (h refl)

update_small : (a b c d : Bool) → cond a 5 (cond b 6 (cond c 7 (cond d 8 no_fault))) ≤ no_fault
update_small a b c d = grind (arith, nat_tests)

update_answer : (peer : Peer) (m : List ℕ) → answered (as_update (read_update peer m)) ≡ cond (runs_over m) 4 (cond (has_malformed (attributes_of m)) 5 (cond (has_invalid peer m) 6 (cond (some (is_foreign peer) (attributes_of m)) 7 (cond (lacks_attribute m) 8 no_fault))))
unfolding read_update content_of update_fault
update_answer peer m = content_answer_lem (runs_over m) (update_fault peer m) (announces m) (attributes_said (attributes_of m)) (update_small (has_malformed (attributes_of m)) (has_invalid peer m) (some (is_foreign peer) (attributes_of m)) (lacks_attribute m))

open_answer : (peer : Peer) (m : List ℕ) → answered (as_open (read_open peer m)) ≡ cond (is_open peer m) no_fault 2
unfolding read_open
open_answer peer m = both (is_open peer m) (record { hold_time = u16_of (drop 22 m); identifier = u32_of (drop 24 m) })
  where
    both : (b : Bool) (o : Open) → answered (as_open (cond b (got o) (fault 2))) ≡ cond b no_fault 2
    both true o = refl
    both false o = refl

module _ (state : State) (peer : Peer) (m : List ℕ) where
  unframed : is_framed m ≡ false → answered (read_message state peer m) ≡ 1
  unfolding kind_of
  unframed e = ap (λ b. answered (read_as state peer m (cond b (kind_named (kind_number m)) None))) e

  framed : (k : Kind) → is_framed m ≡ true → kind_named (kind_number m) ≡ Some k → answered (read_message state peer m) ≡ answered (read_body state peer m k)
  unfolding kind_of
  framed k e n = ap (λ b. answered (read_as state peer m (cond b (kind_named (kind_number m)) None))) e ∙ ap (λ o. answered (read_as state peer m o)) n

open_kind : (n : ℕ) → n ≡ 1 → kind_named n ≡ Some a_kind.Open
open_kind n e = ap kind_named e

update_kind : (n : ℕ) → n ≡ 2 → kind_named n ≡ Some a_kind.Update
update_kind n e = ap kind_named e

keepalive_kind : (n : ℕ) → n ≡ 4 → kind_named n ≡ Some a_kind.Keepalive
keepalive_kind n e = ap kind_named e

-- the header's fault goes before the others
behind_header : (state : State) (peer : Peer) (m : List ℕ) (k : Kind) (n : ℕ) → 1 ≤ n → kind_named (kind_number m) ≡ Some k → answered (read_body state peer m k) ≤ n → answered (read_message state peer m) ≤ n
behind_header state peer m k n l e h = split (is_framed m) refl
  where
    split : (b : Bool) → is_framed m ≡ b → answered (read_message state peer m) ≤ n
    split true f = omega (arith, framed state peer m k f e)
    split false f = omega (arith, unframed state peer m f)

open_low : (state : State) (peer : Peer) (m : List ℕ) → is_open peer m ≡ false → answered (read_body state peer m a_kind.Open) ≤ 2
open_low OpenSent peer m e = omega (arith, open_answer peer m ∙ ap (λ b. cond b no_fault 2) e)
open_low Established peer m e = omega arith

-- a fault of an UPDATE that has been answered no higher
update_low : (state : State) (peer : Peer) (m : List ℕ) (n : ℕ) → 3 ≤ n → cond (runs_over m) 4 (cond (has_malformed (attributes_of m)) 5 (cond (has_invalid peer m) 6 (cond (some (is_foreign peer) (attributes_of m)) 7 (cond (lacks_attribute m) 8 no_fault)))) ≤ n → answered (read_body state peer m a_kind.Update) ≤ n
update_low OpenSent peer m n l h = l
update_low Established peer m n l h = omega (arith, update_answer peer m)

least_low : (o a b c d : Bool) → (o ≡ true → cond o 4 (cond a 5 (cond b 6 (cond c 7 (cond d 8 no_fault)))) ≤ 4) × (a ≡ true → cond o 4 (cond a 5 (cond b 6 (cond c 7 (cond d 8 no_fault)))) ≤ 5) × (b ≡ true → cond o 4 (cond a 5 (cond b 6 (cond c 7 (cond d 8 no_fault)))) ≤ 6) × (c ≡ true → cond o 4 (cond a 5 (cond b 6 (cond c 7 (cond d 8 no_fault)))) ≤ 7) × (d ≡ true → cond o 4 (cond a 5 (cond b 6 (cond c 7 (cond d 8 no_fault)))) ≤ 8)
least_low o a b c d = (λ e. grind (arith, nat_tests), λ e. grind (arith, nat_tests), λ e. grind (arith, nat_tests), λ e. grind (arith, nat_tests), λ e. grind (arith, nat_tests))

and_first : (x y : Bool) → x ≡ false → (x && y) ≡ false
and_first x y e = ap (λ b. b && y) e

and_second : (x y : Bool) → y ≡ false → (x && y) ≡ false
and_second true y e = e
and_second false y e = refl

or_first : (x y : Bool) → x ≡ true → (x || y) ≡ true
or_first x y e = ap (λ b. b || y) e

or_second : (x y : Bool) → y ≡ true → (x || y) ≡ true
or_second true y e = refl
or_second false y e = e

module _ (state : State) (peer : Peer) (m : List ℕ) where
  header_low : is_framed m ≡ false → answered (read_message state peer m) ≤ 1
  header_low e = omega (arith, unframed state peer m e)

  an_open_low : kind_number m ≡ 1 → is_open peer m ≡ false → answered (read_message state peer m) ≤ 2
  an_open_low n e = behind_header state peer m a_kind.Open 2 (omega arith) (open_kind (kind_number m) n) (open_low state peer m e)

  an_update_low : (n : ℕ) → 3 ≤ n → kind_number m ≡ 2 → cond (runs_over m) 4 (cond (has_malformed (attributes_of m)) 5 (cond (has_invalid peer m) 6 (cond (some (is_foreign peer) (attributes_of m)) 7 (cond (lacks_attribute m) 8 no_fault)))) ≤ n → answered (read_message state peer m) ≤ n
  an_update_low n l k h = behind_header state peer m a_kind.Update n (omega arith) (update_kind (kind_number m) k) (update_low state peer m n l h)

module _ (m : List ℕ) where
  -- the tests of a header behind the first
  abbrev lengths : Bool
  lengths = eqb (u16_of (drop 16 m)) (length m) && (leb (length m) 4096 && has_length (kind_named (kind_number m)) (length m))

module _ (peer : Peer) (m : List ℕ) where
  -- the tests of an OPEN behind the first, the second and the third
  abbrev offered : Bool
  offered = is_offer (offers (parameter_offer peer.asn) (drop 29 m))

  abbrev ended : Bool
  ended = eqb (29 + get_or m 28 0) (length m) && offered

  abbrev timed : Bool
  timed = is_hold_time (u16_of (drop 22 m)) && ended

  abbrev networked : Bool
  networked = is_asn peer.asn (u16_of (drop 20 m)) && timed

-- no fault of an UPDATE is answered that is higher than one it has
abbrev least_of : Peer → List ℕ → ℕ
least_of peer m = cond (runs_over m) 4 (cond (has_malformed (attributes_of m)) 5 (cond (has_invalid peer m) 6 (cond (some (is_foreign peer) (attributes_of m)) 7 (cond (lacks_attribute m) 8 no_fault))))

all_low : (peer : Peer) (m : List ℕ) → (runs_over m ≡ true → least_of peer m ≤ 4) × (has_malformed (attributes_of m) ≡ true → least_of peer m ≤ 5) × (has_invalid peer m ≡ true → least_of peer m ≤ 6) × (some (is_foreign peer) (attributes_of m) ≡ true → least_of peer m ≤ 7) × (lacks_attribute m ≡ true → least_of peer m ≤ 8)
all_low peer m = least_low (runs_over m) (has_malformed (attributes_of m)) (has_invalid peer m) (some (is_foreign peer) (attributes_of m)) (lacks_attribute m)

lowest : (state : State) (peer : Peer) (m : List ℕ) {k : ℕ} → HasFault state peer m k → answered (read_message state peer m) ≤ k
lowest state peer m (no_marker e) = header_low state peer m (and_first (has_marker m) (lengths m) e)
lowest state peer m (other_length e) = header_low state peer m (and_second (has_marker m) (lengths m) (and_first _ _ e))
lowest state peer m (too_long e) = header_low state peer m (and_second (has_marker m) (lengths m) (and_second (eqb (u16_of (drop 16 m)) (length m)) _ (and_first _ _ e)))
lowest state peer m (wrong_kind e) = header_low state peer m (and_second (has_marker m) (lengths m) (and_second (eqb (u16_of (drop 16 m)) (length m)) _ (and_second (leb (length m) 4096) _ e)))
lowest state peer m (not_awaited n e) = behind_header state peer m a_kind.Open 2 (omega arith) (open_kind (kind_number m) n) (subst (λ s. answered (read_body s peer m a_kind.Open) ≤ 2) (sym e) (omega arith))
lowest state peer m (other_version n e) = an_open_low state peer m n (and_first _ (networked peer m) e)
lowest state peer m (other_network n e) = an_open_low state peer m n (and_second (eqb (get_or m 19 0) 4) (networked peer m) (and_first _ (timed peer m) e))
lowest state peer m (other_hold_time n e) = an_open_low state peer m n (and_second (eqb (get_or m 19 0) 4) (networked peer m) (and_second (is_asn peer.asn (u16_of (drop 20 m))) (timed peer m) (and_first _ (ended peer m) e)))
lowest state peer m (other_end n e) = an_open_low state peer m n (and_second (eqb (get_or m 19 0) 4) (networked peer m) (and_second (is_asn peer.asn (u16_of (drop 20 m))) (timed peer m) (and_second (is_hold_time (u16_of (drop 22 m))) (ended peer m) (and_first _ (offered peer m) e))))
lowest state peer m (not_offered n e) = an_open_low state peer m n (and_second (eqb (get_or m 19 0) 4) (networked peer m) (and_second (is_asn peer.asn (u16_of (drop 20 m))) (timed peer m) (and_second (is_hold_time (u16_of (drop 22 m))) (ended peer m) (and_second (eqb (29 + get_or m 28 0) (length m)) (offered peer m) e))))
lowest state peer m (early_update n e) = behind_header state peer m a_kind.Update 3 (omega arith) (update_kind (kind_number m) n) (subst (λ s. answered (read_body s peer m a_kind.Update) ≤ 3) (sym e) (omega arith))
lowest state peer m (early_keepalive n e) = behind_header state peer m a_kind.Keepalive 3 (omega arith) (keepalive_kind (kind_number m) n) (subst (λ s. answered (read_body s peer m a_kind.Keepalive) ≤ 3) (sym e) (omega arith))
lowest state peer m (parts_over n e) = an_update_low state peer m 4 (omega arith) n ((all_low peer m).0 (or_first _ _ e))
lowest state peer m (withdrawn_over n e) = an_update_low state peer m 4 (omega arith) n ((all_low peer m).0 (or_second (ltb (length m) (sections_end m)) _ (or_first _ _ e)))
lowest state peer m (attributes_over n e) = an_update_low state peer m 4 (omega arith) n ((all_low peer m).0 (or_second (ltb (length m) (sections_end m)) _ (or_second (overruns prefix_size (withdrawn_in m)) _ (or_first _ _ e))))
lowest state peer m (announced_over n e) = an_update_low state peer m 4 (omega arith) n ((all_low peer m).0 (or_second (ltb (length m) (sections_end m)) _ (or_second (overruns prefix_size (withdrawn_in m)) _ (or_second (overruns attribute_size (attributes_in m)) _ e))))
lowest state peer m (twice n e) = an_update_low state peer m 5 (omega arith) n ((all_low peer m).1 (or_first _ _ e))
lowest state peer m (malformed n e) = an_update_low state peer m 5 (omega arith) n ((all_low peer m).1 (or_second (repeats (types_of (attributes_of m))) _ e))
lowest state peer m (no_prefix_withdrawn n e) = an_update_low state peer m 6 (omega arith) n ((all_low peer m).2 (or_first _ _ (or_first _ _ e)))
lowest state peer m (no_prefix_announced n e) = an_update_low state peer m 6 (omega arith) n ((all_low peer m).2 (or_first _ _ (or_second (has_no_prefix (withdrawn_in m)) _ e)))
lowest state peer m (invalid n e) = an_update_low state peer m 6 (omega arith) n ((all_low peer m).2 (or_second (has_no_prefix (withdrawn_in m) || has_no_prefix (announced_in m)) _ e))
lowest state peer m (foreign n e) = an_update_low state peer m 7 (omega arith) n ((all_low peer m).3 e)
lowest state peer m (lacking n e) = an_update_low state peer m 8 (omega arith) n ((all_low peer m).4 e)

few : (state : State) (peer : Peer) (m : List ℕ) {k : ℕ} → HasFault state peer m k → k ≤ 8
few state peer m (no_marker e) = omega arith
few state peer m (other_length e) = omega arith
few state peer m (too_long e) = omega arith
few state peer m (wrong_kind e) = omega arith
few state peer m (not_awaited n e) = omega arith
few state peer m (other_version n e) = omega arith
few state peer m (other_network n e) = omega arith
few state peer m (other_hold_time n e) = omega arith
few state peer m (other_end n e) = omega arith
few state peer m (not_offered n e) = omega arith
few state peer m (early_update n e) = omega arith
few state peer m (early_keepalive n e) = omega arith
few state peer m (parts_over n e) = omega arith
few state peer m (withdrawn_over n e) = omega arith
few state peer m (attributes_over n e) = omega arith
few state peer m (announced_over n e) = omega arith
few state peer m (twice n e) = omega arith
few state peer m (malformed n e) = omega arith
few state peer m (no_prefix_withdrawn n e) = omega arith
few state peer m (no_prefix_announced n e) = omega arith
few state peer m (invalid n e) = omega arith
few state peer m (foreign n e) = omega arith
few state peer m (lacking n e) = omega arith

-- which of two tests failed, or held
and_split : (x y : Bool) → (x && y) ≡ false → (x ≡ false) ⊎ (y ≡ false)
and_split true y e = inr e
and_split false y e = inl refl

or_split : (x y : Bool) → (x || y) ≡ true → (x ≡ true) ⊎ (y ≡ true)
or_split true y e = inl refl
or_split false y e = inr e

module _ (state : State) (peer : Peer) (m : List ℕ) where
  header_has : is_framed m ≡ false → HasFault state peer m 1
  header_has e = ⊎_elim no_marker (λ f. ⊎_elim other_length (λ g. ⊎_elim too_long wrong_kind (and_split (leb (length m) 4096) _ g)) (and_split (eqb (u16_of (drop 16 m)) (length m)) _ f)) (and_split (has_marker m) (lengths m) e)

  open_has : kind_number m ≡ 1 → is_open peer m ≡ false → HasFault state peer m 2
  open_has n e =
      ⊎_elim (other_version n) (λ f.
      ⊎_elim (other_network n) (λ g.
      ⊎_elim (other_hold_time n) (λ h.
      ⊎_elim (other_end n) (not_offered n)
      (and_split (eqb (29 + get_or m 28 0) (length m)) (offered peer m) h))
      (and_split (is_hold_time (u16_of (drop 22 m))) (ended peer m) g))
      (and_split (is_asn peer.asn (u16_of (drop 20 m))) (timed peer m) f))
      (and_split (eqb (get_or m 19 0) 4) (networked peer m) e)

  over_has : kind_number m ≡ 2 → runs_over m ≡ true → HasFault state peer m 4
  over_has n e =
      ⊎_elim (parts_over n) (λ f.
      ⊎_elim (withdrawn_over n) (λ g.
      ⊎_elim (attributes_over n) (announced_over n)
      (or_split (overruns attribute_size (attributes_in m)) _ g))
      (or_split (overruns prefix_size (withdrawn_in m)) _ f))
      (or_split (ltb (length m) (sections_end m)) _ e)

  malformed_has : kind_number m ≡ 2 → has_malformed (attributes_of m) ≡ true → HasFault state peer m 5
  malformed_has n e = ⊎_elim (twice n) (malformed n) (or_split (repeats (types_of (attributes_of m))) _ e)

  invalid_has : kind_number m ≡ 2 → has_invalid peer m ≡ true → HasFault state peer m 6
  invalid_has n e = ⊎_elim (λ f. ⊎_elim (no_prefix_withdrawn n) (no_prefix_announced n) (or_split (has_no_prefix (withdrawn_in m)) _ f)) (invalid n) (or_split (has_no_prefix (withdrawn_in m) || has_no_prefix (announced_in m)) _ e)

  abbrev Answer : ℕ → Type 0
  Answer k = (k ≡ no_fault) ⊎ HasFault state peer m k

  least_has : kind_number m ≡ 2 → (o a b c d : Bool) → (o ≡ true → HasFault state peer m 4) → (a ≡ true → HasFault state peer m 5) → (b ≡ true → HasFault state peer m 6) → (c ≡ true → HasFault state peer m 7) → (d ≡ true → HasFault state peer m 8) → Answer (cond o 4 (cond a 5 (cond b 6 (cond c 7 (cond d 8 no_fault)))))
  least_has n true a b c d h i j k l = inr (h refl)
  least_has n false true b c d h i j k l = inr (i refl)
  least_has n false false true c d h i j k l = inr (j refl)
  least_has n false false false true d h i j k l = inr (k refl)
  least_has n false false false false true h i j k l = inr (l refl)
  least_has n false false false false false h i j k l = inl refl

update_has : (state : State) (peer : Peer) (m : List ℕ) → kind_number m ≡ 2 → Answer state peer m (answered (read_body state peer m a_kind.Update))
update_has OpenSent peer m n = inr (early_update n refl)
update_has Established peer m n = subst (Answer Established peer m) (sym (update_answer peer m)) (least_has Established peer m n (runs_over m) (has_malformed (attributes_of m)) (has_invalid peer m) (some (is_foreign peer) (attributes_of m)) (lacks_attribute m) (over_has Established peer m n) (malformed_has Established peer m n) (invalid_has Established peer m n) (foreign n) (lacking n))

open_has_body : (state : State) (peer : Peer) (m : List ℕ) → kind_number m ≡ 1 → Answer state peer m (answered (read_body state peer m a_kind.Open))
open_has_body Established peer m n = inr (not_awaited n refl)
open_has_body OpenSent peer m n = subst (Answer OpenSent peer m) (sym (open_answer peer m)) (split (is_open peer m) refl)
  where
    split : (b : Bool) → is_open peer m ≡ b → Answer OpenSent peer m (cond b no_fault 2)
    split true e = inl refl
    split false e = inr (open_has OpenSent peer m n e)

keepalive_has : (state : State) (peer : Peer) (m : List ℕ) → kind_number m ≡ 4 → Answer state peer m (answered (read_body state peer m a_kind.Keepalive))
keepalive_has OpenSent peer m n = inr (early_keepalive n refl)
keepalive_has Established peer m n = inl refl

notification_has : (state : State) (peer : Peer) (m : List ℕ) → Answer state peer m (answered (read_body state peer m a_kind.Notification))
notification_has OpenSent peer m = inl refl
notification_has Established peer m = inl refl

-- a known kind has its number, and one that is none no length
numbered : (n : ℕ) → (n ≡ 1) ⊎ ((n ≡ 2) ⊎ ((n ≡ 3) ⊎ ((n ≡ 4) ⊎ (kind_named n ≡ None))))
numbered n = by (cases_eq n 1) (cases_eq n 2) (cases_eq n 3) (cases_eq n 4)
  where
    by : (n ≡ 1) ⊎ (n ≡ 1 → ⊥) → (n ≡ 2) ⊎ (n ≡ 2 → ⊥) → (n ≡ 3) ⊎ (n ≡ 3 → ⊥) → (n ≡ 4) ⊎ (n ≡ 4 → ⊥) → (n ≡ 1) ⊎ ((n ≡ 2) ⊎ ((n ≡ 3) ⊎ ((n ≡ 4) ⊎ (kind_named n ≡ None))))
    by (inl e) b c d = inl e
    by (inr a) (inl e) c d = inr (inl e)
    by (inr a) (inr b) (inl e) d = inr (inr (inl e))
    by (inr a) (inr b) (inr c) (inl e) = inr (inr (inr (inl e)))
    by (inr a) (inr b) (inr c) (inr d) = inr (inr (inr (inr (grind (arith, nat_tests)))))

present : (state : State) (peer : Peer) (m : List ℕ) → Answer state peer m (answered (read_message state peer m))
present state peer m = split (is_framed m) refl
  where
    body : (k : Kind) → is_framed m ≡ true → kind_named (kind_number m) ≡ Some k → Answer state peer m (answered (read_body state peer m k)) → Answer state peer m (answered (read_message state peer m))
    body k f n h = subst (Answer state peer m) (sym (framed state peer m k f n)) h

    known : is_framed m ≡ true → (kind_number m ≡ 1) ⊎ ((kind_number m ≡ 2) ⊎ ((kind_number m ≡ 3) ⊎ ((kind_number m ≡ 4) ⊎ (kind_named (kind_number m) ≡ None)))) → Answer state peer m (answered (read_message state peer m))
    known f (inl n) = body a_kind.Open f (open_kind (kind_number m) n) (open_has_body state peer m n)
    known f (inr (inl n)) = body a_kind.Update f (update_kind (kind_number m) n) (update_has state peer m n)
    known f (inr (inr (inl n))) = body a_kind.Notification f (ap kind_named n) (notification_has state peer m)
    known f (inr (inr (inr (inl n)))) = body a_kind.Keepalive f (keepalive_kind (kind_number m) n) (keepalive_has state peer m n)
    known f (inr (inr (inr (inr n)))) = absurd (both_ways (is_framed m) (and_second (has_marker m) (lengths m) (and_second (eqb (u16_of (drop 16 m)) (length m)) _ (and_second (leb (length m) 4096) _ (ap (λ o. has_length o (length m)) n)))) f)

    split : (b : Bool) → is_framed m ≡ b → Answer state peer m (answered (read_message state peer m))
    split true f = known f (numbered (kind_number m))
    split false f = subst (Answer state peer m) (sym (unframed state peer m f)) (inr (header_has state peer m f))

pub lowest_fault : LowestFault
lowest_fault = record { present = present; lowest = λ state peer m k h. lowest state peer m h; few = λ state peer m k h. few state peer m h }
