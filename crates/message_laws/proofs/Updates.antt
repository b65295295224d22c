-- UPDATEs that are written are read back. Assumes nothing.
use Rattle.std.proofs.Common.{◌≡◌, ℕ, ◌+◌, ◌*◌, ◌%◌, ◌<◌, ◌≤◌, Bool, true, false, cond, not, ◌&&◌, ◌||◌, eqb, ltb, leb, ◌⊎◌, List, [], ◌∷◌, ◌++◌, length, get_or, take, drop, sym, refl, ap, ◌∙◌, subst, inl, inr, arith}
use Rattle.attributes.specs.AsPath.{got, segment_size, asns_in, is_sequence, asns_of_all, path_in, are_sequences, is_path}
use Rattle.attributes.specs.Layout.{attribute_size}
use Rattle.attributes.specs.Meaning.{Peer}
use Rattle.message.specs.Message.{Updates, read_message}
use Rattle.message.specs.declared.State.TheVariants.{Established}
use Rattle.message_laws.proofs.Backs.{u16_back, u32_back, numbers_back, one_piece, one_fits, first_piece, first_fits, prefix_long, prefix_named, prefix_valid, prefix_fits}
use Rattle.message_laws.proofs.Trips.{Right, good_update, keepalive, notification, opened}
use Rattle.message_laws.specs.RoundTrip.{Fit, Sendable, Sized, RoundTrip, Sizes}
use Rattle.message_write.proofs.Messages.{message_long, body_steps}
use Rattle.message_write.proofs.Puts.{numbers_long}
use Rattle.message_write.proofs.Sizes.{short, size_steps, attribute_steps, attributes_parts}
use Rattle.message_write.specs.Written.{header_bytes, numbers_bytes, number_bytes, prefix_bytes, path_bytes, communities_bytes, attributes_bytes, withdrawal_body, withdrawal_bytes, announcement_body, announcement_bytes}
use Rattle.prefix.specs.Prefix.{Prefix, is_prefix}
use Rattle.route.proofs.Members.{laws}
use Rattle.route.specs.Numbers.{is_in, rising, sorted}
use Rattle.route.specs.Route.{Route, Formed}
use Rattle.std.proofs.lemmas.List.{append-nil, take_at, drop_at, drop_all, drop-drop, nil_from_length}
use Rattle.std.proofs.lemmas.Bool.{eq-eqb, ne_eqb, le-leb, lt-ltb, cases_eq}
use Rattle.std.proofs.lemmas.Bool.Decides.{nat_tests}
use Rattle.update.proofs.Finds.{attribute_pieces}
use Rattle.update.specs.Sections.{withdrawn_length, attributes_length, sections_end, withdrawn_in, attributes_in, announced_in}
use Rattle.update.specs.Update.{Announces, Withdraws, attributes_said, types_of, repeats, is_malformed, has_malformed, is_invalid, is_foreign, value_at}
use Rattle.wire.proofs.Cuts.{piece_steps}
use Rattle.wire.proofs.Naming.{prefix_pieces}
use Rattle.wire.specs.Bytes.{u16_of, u32_of, bytes32, numbers}
use Rattle.wire.specs.Nlri.{holds_prefix, prefixes_of, named}
use Rattle.wire.specs.Pieces.{pieces, overruns, some}
use Rattle.wire.specs.Steps.{PieceSteps}

segment_pieces : PieceSteps segment_size
segment_pieces = piece_steps segment_size (λ b bs. omega arith)

-- a path that is written as one sequence is read back
module _ (path : List ℕ) (fit : Fit path) (some-there : 0 < length path) where
  abbrev sequence : List ℕ
  sequence = 2 ∷ length path ∷ numbers_bytes path

  sequence_size : segment_size sequence ≡ length sequence
  sequence_size = omega (arith, numbers_long path)

  sequence_fits : overruns segment_size sequence ≡ false
  sequence_fits = one_fits segment_size segment_pieces sequence (omega arith) sequence_size

  one_sequence : pieces segment_size sequence ≡ sequence ∷ []
  one_sequence = one_piece segment_size segment_pieces sequence (omega arith) sequence_size

  path_back : path_in sequence ≡ path
  unfolding asns_of_all
  path_back = ap asns_of_all one_sequence ∙ append-nil (asns_in sequence) ∙ numbers_back path fit

  is_sequence_lem : is_sequence sequence ≡ true
  is_sequence_lem = lt-ltb 0 (length (asns_in sequence)) (subst (λ l. 0 < length l) (sym (numbers_back path fit)) some-there)

  are_sequences_lem : are_sequences sequence ≡ true
  unfolding some
  are_sequences_lem = ap (λ ps. not (some (λ s. not (is_sequence s)) ps)) one_sequence ∙ ap (λ b. not (not b || false)) is_sequence_lem

  is_path_lem : length path ≤ 32 → is_path (get_or path 0 0) sequence ≡ true
  is_path_lem h =
      ap (λ b. b && (ltb 0 (length (path_in sequence)) && (leb (length (path_in sequence)) 32 && eqb (get_or (path_in sequence) 0 0) (get_or path 0 0)))) are_sequences_lem
      ∙ ap (λ p. ltb 0 (length p) && (leb (length p) 32 && eqb (get_or p 0 0) (get_or path 0 0))) path_back
      ∙ ap (λ b. b && (leb (length path) 32 && eqb (get_or path 0 0) (get_or path 0 0))) (lt-ltb 0 (length path) some-there)
      ∙ ap (λ b. b && eqb (get_or path 0 0) (get_or path 0 0)) (le-leb (length path) 32 h)
      ∙ eq-eqb (get_or path 0 0) (get_or path 0 0) refl

-- the communities at the end of the attributes, and what there is of them
record Tail (peer : Peer) (cs : List ℕ) (tail : List (List ℕ)) : Type 0 where
  cut : pieces attribute_size (communities_bytes cs) ≡ tail
  fits : overruns attribute_size (communities_bytes cs) ≡ false
  once : repeats (1 ∷ 2 ∷ 3 ∷ 4 ∷ types_of tail) ≡ false
  formed : some is_malformed tail ≡ false
  valid : some (is_invalid peer) tail ≡ false
  near : some (is_foreign peer) tail ≡ false
  said : sorted (numbers (value_at 8 tail)) ≡ cs

tail_none : (peer : Peer) (cs : List ℕ) → length cs ≡ 0 → Tail peer cs []
unfolding repeats some value_at numbers sorted
tail_none peer cs h =
    let none = attribute_steps.no_communities cs h in
    record {
      cut = ap (pieces attribute_size) none ∙ attribute_pieces.none;
      fits = ap (overruns attribute_size) none ∙ attribute_pieces.fits_none;
      once = refl;
      formed = refl;
      valid = refl;
      near = refl;
      said = sym (nil_from_length cs h);
    }

module _ (peer : Peer) (cs : List ℕ) (fit : Fit cs) (some-there : 0 < length cs) (Short-row : length cs ≤ 8) where
  abbrev row : List ℕ
  row = 192 ∷ 8 ∷ (4 * length cs) ∷ numbers_bytes cs

  row_size : attribute_size row ≡ length row
  row_size = omega (arith, numbers_long cs)

  row_formed : is_malformed row ≡ false
  row_formed =
      let n = numbers_long cs in
      let x : eqb (length (numbers_bytes cs)) 0 ≡ false = ne_eqb (length (numbers_bytes cs)) 0 (λ e. omega arith) in
      let y : eqb (length (numbers_bytes cs) % 4) 0 ≡ true = eq-eqb (length (numbers_bytes cs) % 4) 0 (omega arith) in
      ap (λ b. not (not b && eqb (length (numbers_bytes cs) % 4) 0) || false) x ∙ ap (λ b. not b || false) y

  row_valid : is_invalid peer row ≡ false
  row_valid = ap (λ l. ltb 8 (length l)) (numbers_back cs fit) ∙ grind (arith, nat_tests)

  tail_some : rising cs ≡ true → Tail peer cs (row ∷ [])
  unfolding repeats some value_at
  tail_some r =
      let one = attribute_steps.communities cs some-there in
      record {
        cut = ap (pieces attribute_size) one ∙ one_piece attribute_size attribute_pieces row (omega arith) row_size;
        fits = ap (overruns attribute_size) one ∙ one_fits attribute_size attribute_pieces row (omega arith) row_size;
        once = refl;
        formed = ap (λ b. b || false) row_formed;
        valid = ap (λ b. b || false) row_valid;
        near = refl;
        said = ap sorted (numbers_back cs fit) ∙ laws.sorts_once cs r;
      }

-- the attributes of a route are read back
module _ (r : Route) (hop : ℕ) (s : Sendable r) (h : hop < 4294967296) (tail : List (List ℕ)) (t : Tail (record { asn = get_or r.path 0 0; address = hop }) r.communities tail) where
  abbrev peer : Peer
  peer = record { asn = get_or r.path 0 0; address = hop }

  abbrev way : List ℕ
  way = 64 ∷ 2 ∷ (2 + 4 * length r.path) ∷ sequence r.path s.path_fits s.formed.path_is_some

  way_long : length way ≡ 3 + (2 + 4 * length r.path)
  way_long = omega (arith, numbers_long r.path)

  abbrev all : List (List ℕ)
  all = (64 ∷ 1 ∷ 1 ∷ 0 ∷ []) ∷ way ∷ number_bytes 64 3 hop ∷ number_bytes 128 4 r.med ∷ tail

  parts : attributes_bytes r hop ≡ (64 ∷ 1 ∷ 1 ∷ 0 ∷ []) ++ (way ++ (number_bytes 64 3 hop ++ (number_bytes 128 4 r.med ++ communities_bytes r.communities)))
  unfolding path_bytes
  parts = attributes_parts r hop

  cut_all : pieces attribute_size (attributes_bytes r hop) ≡ all
  cut_all =
      ap (pieces attribute_size) parts
      ∙ first_piece attribute_size attribute_pieces (64 ∷ 1 ∷ 1 ∷ 0 ∷ []) (way ++ (number_bytes 64 3 hop ++ (number_bytes 128 4 r.med ++ communities_bytes r.communities))) (omega arith) refl
      ∙ ap (λ l. (64 ∷ 1 ∷ 1 ∷ 0 ∷ []) ∷ l) (first_piece attribute_size attribute_pieces way (number_bytes 64 3 hop ++ (number_bytes 128 4 r.med ++ communities_bytes r.communities)) (omega arith) (sym way_long)
      ∙ ap (λ l. way ∷ l) (first_piece attribute_size attribute_pieces (number_bytes 64 3 hop) (number_bytes 128 4 r.med ++ communities_bytes r.communities) (omega arith) refl
      ∙ ap (λ l. number_bytes 64 3 hop ∷ l) (first_piece attribute_size attribute_pieces (number_bytes 128 4 r.med) (communities_bytes r.communities) (omega arith) refl
      ∙ ap (λ l. number_bytes 128 4 r.med ∷ l) t.cut)))

  fits_all : overruns attribute_size (attributes_bytes r hop) ≡ false
  fits_all =
      ap (overruns attribute_size) parts
      ∙ first_fits attribute_size attribute_pieces (64 ∷ 1 ∷ 1 ∷ 0 ∷ []) (way ++ (number_bytes 64 3 hop ++ (number_bytes 128 4 r.med ++ communities_bytes r.communities))) (omega arith) refl
      ∙ first_fits attribute_size attribute_pieces way (number_bytes 64 3 hop ++ (number_bytes 128 4 r.med ++ communities_bytes r.communities)) (omega arith) (sym way_long)
      ∙ first_fits attribute_size attribute_pieces (number_bytes 64 3 hop) (number_bytes 128 4 r.med ++ communities_bytes r.communities) (omega arith) refl
      ∙ first_fits attribute_size attribute_pieces (number_bytes 128 4 r.med) (communities_bytes r.communities) (omega arith) refl
      ∙ t.fits

  malformed_none : has_malformed all ≡ false
  unfolding some
  malformed_none =
      ap (λ b. b || some is_malformed all) t.once
      ∙ ap (λ b. b || some is_malformed tail) (sequence_fits r.path s.path_fits s.formed.path_is_some)
      ∙ t.formed

  invalid_none : some (is_invalid peer) all ≡ false
  unfolding some
  invalid_none = ap (λ b. (not b || false) || some (is_invalid peer) tail) (is_path_lem r.path s.path_fits s.formed.path_is_some s.formed.path_is_short) ∙ t.valid

  foreign_none : some (is_foreign peer) all ≡ false
  unfolding some
  foreign_none = ap (λ b. not b || some (is_foreign peer) tail) (eq-eqb (u32_of (bytes32 hop)) hop (u32_back hop h)) ∙ t.near

  said_back : attributes_said all ≡ record { path = r.path; med = r.med; communities = r.communities }
  unfolding value_at
  said_back =
      ap (λ p. record { path = p; med = u32_of (bytes32 r.med); communities = sorted (numbers (value_at 8 tail)) }) (path_back r.path s.path_fits s.formed.path_is_some)
      ∙ ap (λ n. record { path = r.path; med = n; communities = sorted (numbers (value_at 8 tail)) }) (u32_back r.med s.med_fits)
      ∙ ap (λ c. record { path = r.path; med = r.med; communities = c }) t.said

  there_all : (b : Bool) → (b && not (is_in 2 (types_of all) && is_in 3 (types_of all))) ≡ false
  there_all true = refl
  there_all false = refl

  right_all : Right peer [] (attributes_bytes r hop) (prefix_bytes r.prefix)
  unfolding some
  right_all = record {
    withdrawn_fits = prefix_pieces.fits_none;
    attributes_fit = fits_all;
    announced_fits = prefix_fits r.prefix s.formed.prefix_is_one;
    formed = ap has_malformed cut_all ∙ malformed_none;
    withdrawn_valid = ap (some (λ x. not (holds_prefix x))) prefix_pieces.none;
    announced_valid = prefix_valid r.prefix s.formed.prefix_is_one;
    valid = ap (some (is_invalid peer)) cut_all ∙ invalid_none;
    near = ap (some (is_foreign peer)) cut_all ∙ foreign_none;
    there = ap (λ l. ltb 0 (length (prefix_bytes r.prefix)) && not (is_in 2 (types_of l) && is_in 3 (types_of l))) cut_all ∙ there_all (ltb 0 (length (prefix_bytes r.prefix)));
  }

  said_all : attributes_said (pieces attribute_size (attributes_bytes r hop)) ≡ record { path = r.path; med = r.med; communities = r.communities }
  said_all = ap attributes_said cut_all ∙ said_back

tail_there : (peer : Peer) (cs : List ℕ) → Fit cs → length cs ≤ 8 → rising cs ≡ true → (tail : List (List ℕ)) × Tail peer cs tail
tail_there peer cs fit few r = by (cases_eq (length cs) 0)
  where
    by : (length cs ≡ 0) ⊎ (length cs ≡ 0 → ⊥) → (tail : List (List ℕ)) × Tail peer cs tail
    by (inl e) = ([], tail_none peer cs e)
    by (inr n) = let there : 0 < length cs = omega arith in (row peer cs fit there few ∷ [], tail_some peer cs fit there few r)

named_none : named [] ≡ []
unfolding named prefixes_of
named_none = ap prefixes_of prefix_pieces.none

-- the parts of a withdrawal
module _ (p : Prefix) (h : is_prefix p.address p.length ≡ true) where
  abbrev gone : List ℕ
  gone = withdrawal_bytes p

  width : length (prefix_bytes p) ≤ 4
  width = let s = short p h in omega (arith, prefix_long p h)

  gone_long : length gone ≡ 23 + length (prefix_bytes p)
  gone_long = omega (arith, message_long 2 (withdrawal_body p), body_steps.withdrawal p)

  gone_length : withdrawn_length gone ≡ length (prefix_bytes p)
  unfolding header_bytes
  gone_length = u16_back (length (prefix_bytes p)) (omega (arith, width))

  behind_length : drop 21 gone ≡ prefix_bytes p ++ (0 ∷ 0 ∷ [])
  unfolding header_bytes
  behind_length = refl

  no_attributes : attributes_length gone ≡ 0
  no_attributes =
      ap (λ n. u16_of (drop (21 + n) gone)) gone_length
      ∙ ap u16_of (sym (drop-drop (length (prefix_bytes p)) 21 gone) ∙ ap (drop (length (prefix_bytes p))) behind_length ∙ drop_at (prefix_bytes p) (0 ∷ 0 ∷ []) (length (prefix_bytes p)) refl)

  gone_end : sections_end gone ≡ 23 + length (prefix_bytes p)
  unfolding sections_end
  gone_end = omega (arith, gone_length, no_attributes)

  gone_withdrawn : withdrawn_in gone ≡ prefix_bytes p
  unfolding withdrawn_in
  gone_withdrawn = ap (λ n. take n (drop 21 gone)) gone_length ∙ ap (take (length (prefix_bytes p))) behind_length ∙ take_at (prefix_bytes p) (0 ∷ 0 ∷ []) (length (prefix_bytes p)) refl

  gone_attributes : attributes_in gone ≡ []
  unfolding attributes_in
  gone_attributes = ap (λ n. take n (drop (23 + withdrawn_length gone) gone)) no_attributes

  gone_announced : announced_in gone ≡ []
  unfolding announced_in
  gone_announced = drop_all (sections_end gone) gone (omega (arith, gone_end, gone_long))

  nothing_there : pieces attribute_size [] ≡ []
  nothing_there = attribute_pieces.none

  gone_right : (peer : Peer) → Right peer (prefix_bytes p) [] []
  unfolding some repeats
  gone_right peer = record {
    withdrawn_fits = prefix_fits p h;
    attributes_fit = attribute_pieces.fits_none;
    announced_fits = prefix_pieces.fits_none;
    formed = ap has_malformed nothing_there;
    withdrawn_valid = prefix_valid p h;
    announced_valid = ap (some (λ x. not (holds_prefix x))) prefix_pieces.none;
    valid = ap (some (is_invalid peer)) nothing_there;
    near = ap (some (is_foreign peer)) nothing_there;
    there = refl;
  }

  withdrawn : (peer : Peer) → read_message Established peer (withdrawal_bytes p) ≡ got (Updates Withdraws)
  withdrawn peer = good_update peer (withdrawal_body p) (prefix_bytes p) [] [] (omega (arith, width, body_steps.withdrawal p)) (omega (arith, body_steps.withdrawal p)) (omega (arith, gone_end, gone_long)) gone_withdrawn gone_attributes gone_announced (gone_right peer)

  withdrawn_named : (named (withdrawn_in (withdrawal_bytes p)) ≡ p ∷ []) × (named (announced_in (withdrawal_bytes p)) ≡ [])
  unfolding named
  withdrawn_named = (ap named gone_withdrawn ∙ prefix_named p h, ap named gone_announced ∙ named_none)

  gone_sized : Sized (withdrawal_bytes p)
  gone_sized = record { least = omega (arith, gone_long); most = omega (arith, gone_long, width) }

-- the parts of an announcement
module _ (r : Route) (hop : ℕ) (f : Formed r) where
  abbrev sent : List ℕ
  sent = announcement_bytes r hop

  communities_short : length (communities_bytes r.communities) ≤ 35
  communities_short = by (cases_eq (length r.communities) 0)
    where
      by : (length r.communities ≡ 0) ⊎ (length r.communities ≡ 0 → ⊥) → length (communities_bytes r.communities) ≤ 35
      by (inl e) = omega (arith, size_steps.no_communities r.communities e)
      by (inr n) = omega (arith, size_steps.communities r.communities (omega arith), f.communities_are_few)

  attributes_short : length (attributes_bytes r hop) ≤ 186
  attributes_short = omega (arith, size_steps.attributes r hop, communities_short, f.path_is_short)

  last_width : length (prefix_bytes r.prefix) ≤ 4
  last_width = width r.prefix f.prefix_is_one

  sent_long : length sent ≡ 23 + length (attributes_bytes r hop) + length (prefix_bytes r.prefix)
  sent_long = omega (arith, message_long 2 (announcement_body r hop), body_steps.announcement r hop)

  sent_length : attributes_length sent ≡ length (attributes_bytes r hop)
  unfolding header_bytes
  sent_length = u16_back (length (attributes_bytes r hop)) (omega (arith, attributes_short))

  behind_lengths : drop 23 sent ≡ attributes_bytes r hop ++ prefix_bytes r.prefix
  unfolding header_bytes
  behind_lengths = refl

  sent_end : sections_end sent ≡ 23 + length (attributes_bytes r hop)
  unfolding sections_end header_bytes
  sent_end = ap (λ n. 23 + n) sent_length

  sent_withdrawn : withdrawn_in sent ≡ []
  unfolding withdrawn_in header_bytes
  sent_withdrawn = refl

  sent_attributes : attributes_in sent ≡ attributes_bytes r hop
  unfolding attributes_in header_bytes
  sent_attributes = ap (λ n. take n (attributes_bytes r hop ++ prefix_bytes r.prefix)) sent_length ∙ take_at (attributes_bytes r hop) (prefix_bytes r.prefix) (length (attributes_bytes r hop)) refl

  sent_announced : announced_in sent ≡ prefix_bytes r.prefix
  unfolding announced_in
  sent_announced = ap (λ n. drop n sent) sent_end ∙ sym (drop-drop (length (attributes_bytes r hop)) 23 sent) ∙ ap (drop (length (attributes_bytes r hop))) behind_lengths ∙ drop_at (attributes_bytes r hop) (prefix_bytes r.prefix) (length (attributes_bytes r hop)) refl

  announced_named : (named (withdrawn_in (announcement_bytes r hop)) ≡ []) × (named (announced_in (announcement_bytes r hop)) ≡ r.prefix ∷ [])
  announced_named = (ap named sent_withdrawn ∙ named_none, ap named sent_announced ∙ prefix_named r.prefix f.prefix_is_one)

  sent_sized : Sized (announcement_bytes r hop)
  sent_sized = record { least = omega (arith, sent_long); most = omega (arith, sent_long, attributes_short, last_width) }

announced : (r : Route) (hop : ℕ) → Sendable r → hop < 4294967296 → read_message Established (record { asn = get_or r.path 0 0; address = hop }) (announcement_bytes r hop) ≡ got (Updates (Announces (record { path = r.path; med = r.med; communities = r.communities })))
announced r hop s h =
    let from : Peer = record { asn = get_or r.path 0 0; address = hop } in
    let t = tail_there from r.communities s.communities_fit s.formed.communities_are_few s.formed.communities_rise in
    let f = s.formed in
    let long = body_steps.announcement r hop in
    let some-there : ltb 0 (length (prefix_bytes r.prefix)) ≡ true = lt-ltb 0 (length (prefix_bytes r.prefix)) (omega (arith, prefix_long r.prefix f.prefix_is_one)) in
    good_update from (announcement_body r hop) [] (attributes_bytes r hop) (prefix_bytes r.prefix) (omega (arith, long, attributes_short r hop f, last_width r hop f)) (omega (arith, long)) (omega (arith, sent_end r hop f, sent_long r hop f)) (sent_withdrawn r hop f) (sent_attributes r hop f) (sent_announced r hop f) (right_all r hop s h t.0 t.1)
    ∙ ap (λ b. got (Updates (cond b (Announces (attributes_said (pieces attribute_size (attributes_bytes r hop)))) Withdraws))) some-there
    ∙ ap (λ a. got (Updates (Announces a))) (said_all r hop s h t.0 t.1)

pub round_trip : RoundTrip
round_trip = record {
  keepalive = keepalive;
  notification = notification;
  opened = opened;
  withdrawn = λ peer p h. withdrawn p h peer;
  withdrawn_named = withdrawn_named;
  announced = announced;
  announced_named = λ r hop s. announced_named r hop s.formed;
}

pub sizes : Sizes
unfolding header_bytes
sizes = record {
  keepalive = record { least = omega arith; most = omega arith };
  notification = λ k. record { least = omega arith; most = omega arith };
  opened = λ asn address. record { least = omega arith; most = omega arith };
  withdrawn = gone_sized;
  announced = sent_sized;
}
