-- What is written is read back: headers, and UPDATEs from their parts. Assumes nothing.
use Rattle.std.proofs.Common.{◌≡◌, ℕ, ◌+◌, ◌<◌, ◌≤◌, Bool, true, false, cond, not, ◌&&◌, ◌||◌, eqb, ltb, leb, ◌⊎◌, List, [], ◌∷◌, length, None, sym, refl, ap, ◌∙◌, subst, inl, inr, arith}
use Rattle.attributes.specs.AsPath.{got, fault}
use Rattle.attributes.specs.Layout.{attribute_size}
use Rattle.attributes.specs.Meaning.{Peer, no_fault}
use Rattle.message.specs.Header.{has_length, kind_named, kind_of}
use Rattle.message.specs.Message.{Opens, Updates, Notifies, KeepsAlive, as_open, as_update, read_as, read_message}
use Rattle.message.specs.Open.{is_asn, is_offer, offers, offers_after, parameter_offer, read_open}
use Rattle.message.specs.declared.State.{State}
use Rattle.message.specs.declared.State.TheVariants.{OpenSent, Established}
use Rattle.message_laws.proofs.Backs.{u16_back, u32_back}
use Rattle.message_write.proofs.Messages.{message_long}
use Rattle.message_write.specs.Written.{header_bytes, message_bytes, keepalive_bytes, notification_bytes, open_body, open_bytes, short_asn}
use Rattle.std.proofs.lemmas.Bool.{eq-eqb, le-leb, cases_lt, lt-ltb, le-ltb}
use Rattle.std.proofs.lemmas.Bool.Decides.{nat_tests}
use Rattle.route.specs.Numbers.{is_in}
use Rattle.update.specs.Sections.{sections_end, withdrawn_in, attributes_in, announced_in}
use Rattle.update.specs.Update.{Content, Announces, Withdraws, Faulty, attributes_of, attributes_said, types_of, announces, has_malformed, is_invalid, is_foreign, lacks_attribute, update_fault, content_of, read_update}
use Rattle.wire.specs.Bytes.{u16_of, u32_of, bytes16, bytes32}
use Rattle.wire.specs.Nlri.{prefix_size, has_no_prefix}
use Rattle.wire.specs.Pieces.{pieces_past, overruns_past, pieces, overruns, some}

-- a message that is written has the kind that it was given
pub header_back : (kind : ℕ) (body : List ℕ) → 19 + length body ≤ 4096 → has_length (kind_named kind) (19 + length body) ≡ true → kind_of (message_bytes kind body) ≡ kind_named kind
unfolding kind_of header_bytes
header_back kind body h l =
    let long = message_long kind body in
    let m = message_bytes kind body in
    let same_length : eqb (u16_of (bytes16 (19 + length body))) (length m) ≡ true = eq-eqb (u16_of (bytes16 (19 + length body))) (length m) (u16_back (19 + length body) (omega arith) ∙ sym long) in
    let small : leb (length m) 4096 ≡ true = le-leb (length m) 4096 (omega (arith, long)) in
    let kinded : has_length (kind_named kind) (length m) ≡ true = ap (has_length (kind_named kind)) long ∙ l in
    framed (eqb (u16_of (bytes16 (19 + length body))) (length m)) (leb (length m) 4096) (has_length (kind_named kind) (length m)) same_length small kinded
  where
    framed : (x y z : Bool) → x ≡ true → y ≡ true → z ≡ true → cond (true && (x && (y && z))) (kind_named kind) None ≡ kind_named kind
    framed x y z e f g = grind (arith, nat_tests)

pub keepalive : (peer : Peer) → read_message Established peer keepalive_bytes ≡ got KeepsAlive
unfolding header_bytes
keepalive peer = ap (read_as Established peer keepalive_bytes) (header_back 4 [] (omega arith) refl)

pub notification : (state : State) (peer : Peer) (k : ℕ) → read_message state peer (notification_bytes k) ≡ got (Notifies 6 k)
unfolding header_bytes
notification OpenSent peer k = ap (read_as OpenSent peer (notification_bytes k)) (header_back 3 (6 ∷ k ∷ []) (omega arith) refl)
notification Established peer k = ap (read_as Established peer (notification_bytes k)) (header_back 3 (6 ∷ k ∷ []) (omega arith) refl)

-- the network in 2 bytes is the peer's
short_back : (asn : ℕ) → is_asn asn (u16_of (bytes16 (short_asn asn))) ≡ true
short_back asn = by (cases_lt asn 65536)
  where
    either_way : (x : Bool) → (x || true) ≡ true
    either_way true = refl
    either_way false = refl

    by : (asn < 65536) ⊎ (65536 ≤ asn) → is_asn asn (u16_of (bytes16 (short_asn asn))) ≡ true
    by (inl h) = ap (λ b. is_asn asn (u16_of (bytes16 (cond b asn 23456)))) (lt-ltb asn 65536 h) ∙ ap (is_asn asn) (u16_back asn h) ∙ ap (λ b. b || eqb asn 23456) (eq-eqb asn asn refl)
    by (inr h) = ap (λ b. is_asn asn (u16_of (bytes16 (cond b asn 23456)))) (le-ltb asn 65536 h) ∙ either_way (eqb 23456 asn)

offers_back : (asn : ℕ) → asn < 4294967296 → is_offer (offers (parameter_offer asn) (2 ∷ 12 ∷ 1 ∷ 4 ∷ 0 ∷ 1 ∷ 0 ∷ 1 ∷ 65 ∷ 4 ∷ bytes32 asn)) ≡ true
unfolding offers_after pieces_past overruns_past some
offers_back asn h =
    let e : eqb (u32_of (bytes32 asn)) asn ≡ true = eq-eqb (u32_of (bytes32 asn)) asn (u32_back asn h) in
    rw e refl

pub opened : (asn address from : ℕ) → asn < 4294967296 → address < 4294967296 → read_message OpenSent (record { asn = asn; address = from }) (open_bytes asn address) ≡ got (Opens (record { hold_time = 90; identifier = address }))
unfolding header_bytes read_open
opened asn address from h l =
    ap (read_as OpenSent (record { asn = asn; address = from }) (open_bytes asn address)) (header_back 1 (open_body asn address) (omega arith) refl)
    ∙ right (is_asn asn (u16_of (bytes16 (short_asn asn)))) (is_offer (offers (parameter_offer asn) (2 ∷ 12 ∷ 1 ∷ 4 ∷ 0 ∷ 1 ∷ 0 ∷ 1 ∷ 65 ∷ 4 ∷ bytes32 asn))) (u32_of (bytes32 address)) (short_back asn) (offers_back asn h) (u32_back address l)
  where
    right : (x y : Bool) (n : ℕ) → x ≡ true → y ≡ true → n ≡ address → as_open (cond (true && (x && (true && (true && y)))) (got (record { hold_time = 90; identifier = n })) (fault 2)) ≡ got (Opens (record { hold_time = 90; identifier = address }))
    right x y n e f g = ap (λ b. as_open (cond (b && y) (got (record { hold_time = 90; identifier = n })) (fault 2))) e ∙ ap (λ b. as_open (cond b (got (record { hold_time = 90; identifier = n })) (fault 2))) f ∙ ap (λ i. got (Opens (record { hold_time = 90; identifier = i }))) g

-- an UPDATE without a fault, from its parts
fault_free : (s w a n h5 v u h6 h7 h8 : Bool) (x : Content) → s ≡ false → w ≡ false → a ≡ false → n ≡ false → h5 ≡ false → v ≡ false → u ≡ false → h6 ≡ false → h7 ≡ false → h8 ≡ false → cond (s || (w || (a || n))) (fault 4) (got (cond (ltb (cond h5 5 (cond ((v || u) || h6) 6 (cond h7 7 (cond h8 8 no_fault)))) no_fault) (Faulty (cond h5 5 (cond ((v || u) || h6) 6 (cond h7 7 (cond h8 8 no_fault))))) x)) ≡ got x
fault_free s w a n h5 v u h6 h7 h8 x e1 e2 e3 e4 e5 e6 e7 e8 e9 e10 =
    ap (λ b. cond (b || (w || (a || n))) (fault 4) (got (cond (ltb (cond h5 5 (cond ((v || u) || h6) 6 (cond h7 7 (cond h8 8 no_fault)))) no_fault) (Faulty (cond h5 5 (cond ((v || u) || h6) 6 (cond h7 7 (cond h8 8 no_fault))))) x))) e1
    ∙ ap (λ b. cond (false || (b || (a || n))) (fault 4) (got (cond (ltb (cond h5 5 (cond ((v || u) || h6) 6 (cond h7 7 (cond h8 8 no_fault)))) no_fault) (Faulty (cond h5 5 (cond ((v || u) || h6) 6 (cond h7 7 (cond h8 8 no_fault))))) x))) e2
    ∙ ap (λ b. cond (false || (false || (b || n))) (fault 4) (got (cond (ltb (cond h5 5 (cond ((v || u) || h6) 6 (cond h7 7 (cond h8 8 no_fault)))) no_fault) (Faulty (cond h5 5 (cond ((v || u) || h6) 6 (cond h7 7 (cond h8 8 no_fault))))) x))) e3
    ∙ ap (λ b. cond (false || (false || (false || b))) (fault 4) (got (cond (ltb (cond h5 5 (cond ((v || u) || h6) 6 (cond h7 7 (cond h8 8 no_fault)))) no_fault) (Faulty (cond h5 5 (cond ((v || u) || h6) 6 (cond h7 7 (cond h8 8 no_fault))))) x))) e4
    ∙ ap (λ b. cond (false || (false || (false || false))) (fault 4) (got (cond (ltb (cond b 5 (cond ((v || u) || h6) 6 (cond h7 7 (cond h8 8 no_fault)))) no_fault) (Faulty (cond b 5 (cond ((v || u) || h6) 6 (cond h7 7 (cond h8 8 no_fault))))) x))) e5
    ∙ ap (λ b. cond (false || (false || (false || false))) (fault 4) (got (cond (ltb (cond false 5 (cond ((b || u) || h6) 6 (cond h7 7 (cond h8 8 no_fault)))) no_fault) (Faulty (cond false 5 (cond ((b || u) || h6) 6 (cond h7 7 (cond h8 8 no_fault))))) x))) e6
    ∙ ap (λ b. cond (false || (false || (false || false))) (fault 4) (got (cond (ltb (cond false 5 (cond ((false || b) || h6) 6 (cond h7 7 (cond h8 8 no_fault)))) no_fault) (Faulty (cond false 5 (cond ((false || b) || h6) 6 (cond h7 7 (cond h8 8 no_fault))))) x))) e7
    ∙ ap (λ b. cond (false || (false || (false || false))) (fault 4) (got (cond (ltb (cond false 5 (cond ((false || false) || b) 6 (cond h7 7 (cond h8 8 no_fault)))) no_fault) (Faulty (cond false 5 (cond ((false || false) || b) 6 (cond h7 7 (cond h8 8 no_fault))))) x))) e8
    ∙ ap (λ b. cond (false || (false || (false || false))) (fault 4) (got (cond (ltb (cond false 5 (cond ((false || false) || false) 6 (cond b 7 (cond h8 8 no_fault)))) no_fault) (Faulty (cond false 5 (cond ((false || false) || false) 6 (cond b 7 (cond h8 8 no_fault))))) x))) e9
    ∙ ap (λ b. cond (false || (false || (false || false))) (fault 4) (got (cond (ltb (cond false 5 (cond ((false || false) || false) 6 (cond false 7 (cond b 8 no_fault)))) no_fault) (Faulty (cond false 5 (cond ((false || false) || false) 6 (cond false 7 (cond b 8 no_fault))))) x))) e10

-- what a peer reads of an UPDATE whose parts are right
pub record Right (peer : Peer) (w a n : List ℕ) : Type 0 where
  pub withdrawn_fits : overruns prefix_size w ≡ false
  pub attributes_fit : overruns attribute_size a ≡ false
  pub announced_fits : overruns prefix_size n ≡ false
  pub formed : has_malformed (pieces attribute_size a) ≡ false
  pub withdrawn_valid : has_no_prefix w ≡ false
  pub announced_valid : has_no_prefix n ≡ false
  pub valid : some (is_invalid peer) (pieces attribute_size a) ≡ false
  pub near : some (is_foreign peer) (pieces attribute_size a) ≡ false
  pub there : (ltb 0 (length n) && not (is_in 2 (types_of (pieces attribute_size a)) && is_in 3 (types_of (pieces attribute_size a)))) ≡ false

right_update : (peer : Peer) (m : List ℕ) → sections_end m ≤ length m → Right peer (withdrawn_in m) (attributes_in m) (announced_in m) → read_update peer m ≡ got (cond (announces m) (Announces (attributes_said (attributes_of m))) Withdraws)
unfolding read_update content_of update_fault
right_update peer m h r = fault_free (ltb (length m) (sections_end m)) (overruns prefix_size (withdrawn_in m)) (overruns attribute_size (attributes_in m)) (overruns prefix_size (announced_in m)) (has_malformed (attributes_of m)) (has_no_prefix (withdrawn_in m)) (has_no_prefix (announced_in m)) (some (is_invalid peer) (attributes_of m)) (some (is_foreign peer) (attributes_of m)) (lacks_attribute m) (cond (announces m) (Announces (attributes_said (attributes_of m))) Withdraws) (le-ltb (length m) (sections_end m) h) r.withdrawn_fits r.attributes_fit r.announced_fits r.formed r.withdrawn_valid r.announced_valid r.valid r.near r.there

pub good_update : (peer : Peer) (body w a n : List ℕ) → 19 + length body ≤ 4096 → 23 ≤ 19 + length body → sections_end (message_bytes 2 body) ≤ length (message_bytes 2 body) → withdrawn_in (message_bytes 2 body) ≡ w → attributes_in (message_bytes 2 body) ≡ a → announced_in (message_bytes 2 body) ≡ n → Right peer w a n → read_message Established peer (message_bytes 2 body) ≡ got (Updates (cond (ltb 0 (length n)) (Announces (attributes_said (pieces attribute_size a))) Withdraws))
good_update peer body w a n h l s e f g r =
    let m = message_bytes 2 body in
    let right : Right peer (withdrawn_in m) (attributes_in m) (announced_in m) = subst (λ x. Right peer x (attributes_in m) (announced_in m)) (sym e) (subst (λ x. Right peer w x (announced_in m)) (sym f) (subst (λ x. Right peer w a x) (sym g) r)) in
    ap (read_as Established peer m) (header_back 2 body h (le-leb 23 (19 + length body) l))
    ∙ ap as_update (right_update peer m s right)
    ∙ ap (λ x. got (Updates (cond (ltb 0 (length x)) (Announces (attributes_said (attributes_of m))) Withdraws))) g
    ∙ ap (λ x. got (Updates (cond (ltb 0 (length n)) (Announces (attributes_said (pieces attribute_size x))) Withdraws))) f
